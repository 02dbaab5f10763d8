-- What a buffer holds after one more read into its rest, beside what the reader gave.
-- Assumes nothing.
use Rattle.std.proofs.Common.{◌≡◌, ℕ, ◌+◌, ◌-◌, ◌≤◌, List, [], ◌++◌, None, Some, length, take, drop, sym, ap, ◌∙◌, subst, le_refl, drop_at, length-take-le}
use Rattle.std.specs.declared.option.Option.{Option}
use Rattle.std.proofs.lemmas.Slice.{take-put_mid_below}
use Rattle.std.specs.Io.KnownBytes.{Consumes, Keeps}
use Rattle.std.proofs.KnownBytes.{Consumes-trans}
use borrow.Rule.Slice.PartMut.{put_mid, post_of}
use lib.Seq.{take-add, take-append-le}

-- the buffer after its rest, from a place on, became `rest`
abbrev pub whole : (old rest : List ℕ) (from : ℕ) → List ℕ
whole old rest from = put_mid from (length old - from) old rest

front_kept : (old rest : List ℕ) (from : ℕ) → from ≤ length old → take from (whole old rest from) ≡ take from old
front_kept old rest from within = take-put_mid_below _ _ _ _ _ (le_refl _) within

pub taken : (old rest : List ℕ) (from n : ℕ) → from ≤ length old → n ≤ length rest → take (from + n) (whole old rest from) ≡ take from old ++ take n rest
taken old rest from n within fits =
    let after = post_of from (length old - from) old in
    let behind = drop_at (take from old) (rest ++ after) from (length-take-le from old within) in
    take-add from n (whole old rest from)
    ∙ ap (λ l. l ++ take n (drop from (whole old rest from))) (front_kept old rest from within)
    ∙ ap (λ l. take from old ++ l) (ap (take n) behind ∙ take-append-le n rest after fits)

-- n bytes more were read
pub read_more : (a b c : Option (List ℕ)) (old rest : List ℕ) (from n at : ℕ) → at ≡ from + n → from ≤ length old → n ≤ length rest
    → Consumes a b (take from old) → Consumes b c (take n rest) → Consumes a c (take at (whole old rest from))
read_more a b c old rest from n at e within fits first second =
    subst (Consumes a c) (sym (ap (λ k. take k (whole old rest from)) e ∙ taken old rest from n within fits)) (Consumes-trans a b c _ _ first second)

-- a read that failed took nothing
pub read_none : (a b : Option (List ℕ)) → Keeps a b → Consumes a b []
read_none None b kept = tt
read_none (Some x) None kept = absurd kept
read_none (Some x) (Some y) kept = sym kept
