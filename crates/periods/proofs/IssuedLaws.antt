-- Tonnes issued at ends: at one end in natural numbers, turn by turn, and their bytes stored one after the other.
-- Assumes nothing.
use Rattle.std.proofs.Common.{◌≡◌, ℕ, suc, ◌+◌, ◌-◌, ◌*◌, ◌^◌, ◌≤◌, ◌<◌, List, [], ◌∷◌, ◌++◌, map, ℤ, pos, ◌+ℤ◌, ◌-ℤ◌, length, take, drop, get_or, drop-cons, add-one, refl, ◌∙◌, ap, sym, arith}
use Rattle.std.proofs.Math.Seq.{take-add}
use Rattle.std.proofs.lemmas.List.{drop-drop, length-map, length-take-le}
use Rattle.std.proofs.lemmas.List.Edits.{sets}
use Rattle.std.specs.Int.Signed.{mag}
use mir.Syntax.{w64}
use mir.Val.{to_z}
use mir.Facts.{to_z_pos}
use Rattle.arithmetic.specs.Rounding.{positive_part}
use Rattle.arithmetic.proofs.IntegerLaws.{positive_difference}
use Rattle.wire.specs.Signed.{figure_bytes, figures_bytes}
use Rattle.wire.proofs.SignedLaws.{stored_one}
use Rattle.figures.specs.Figures.{tonnes_of}
use Rattle.figures.proofs.FiguresLaws.{tonnes-le}
use Rattle.periods.specs.Periods.{issued_now, issued_after, totals_at, issued_tonnes}

-- at one end
pub issued_now_lem : (before tonnes : ℕ) (total : ℤ) → tonnes ≡ tonnes_of total → issued_now (pos before) total ≡ pos (tonnes - before)
unfolding issued_now
issued_now_lem before tonnes total e = ap (λ (t : ℕ). positive_part (pos t -ℤ pos before)) (sym e) ∙ positive_difference tonnes before

pub length-issued : (before : ℤ) (totals : List ℤ) → length (issued_after before totals) ≡ length totals
unfolding issued_after
length-issued before [] = refl
length-issued before (total ∷ totals) = ap suc (length-issued (before +ℤ issued_now before total) totals)

-- one number for each end
pub count-issued : (first : ℕ) (credited : ℕ → ℤ) (ends : List ℕ) → length (issued_tonnes first credited ends) ≡ length ends
count-issued first credited ends = length-issued (pos 0) (totals_at first credited ends) ∙ length-map ends _

pub none-stored : (first : ℕ) (credited : ℕ → ℤ) (ends s : List ℕ) (at : ℕ) → length ends ≡ 0 → s ≡ sets s at (figures_bytes (issued_tonnes first credited ends))
unfolding issued_after figures_bytes
none-stored first credited [] s at e = refl
none-stored first credited (end ∷ ends) s at e = absurd (omega arith)

-- all that are issued stay within 63 bits, as the running totals do
pub issued_fits : (before now : ℕ) (total : ℤ) → pos now ≡ issued_now (pos before) total → mag total < 2 ^ 63 → before < 2 ^ 63 → before + now < 2 ^ 63
issued_fits before now total e small few =
    let is : now ≡ tonnes_of total - before = ap mag (e ∙ issued_now_lem before (tonnes_of total) total refl) in
    omega (arith, is, tonnes-le total)

-- a turn: the number for the end at place i follows those that are done, and the others are issued after it
pub issued_turn : (total : ℕ → ℤ) (ends : List ℕ) (i before now : ℕ) (all : List ℤ) → i < length ends
    → drop i all ≡ issued_after (pos before) (map total (drop i ends)) → pos now ≡ issued_now (pos before) (total (get_or ends i 0))
    → (take (i + 1) all ≡ take i all ++ (pos now ∷ [])) × (drop (i + 1) all ≡ issued_after (pos (before + now)) (map total (drop (i + 1) ends)))
unfolding issued_after
issued_turn total ends i before now all h rest e =
    let next : drop i all ≡ pos now ∷ issued_after (pos (before + now)) (map total (drop (i + 1) ends)) = rest ∙ rw (drop-cons ends i 0 h, ← e, add-one i) in
    (take-add i 1 all ∙ ap (λ (l : List ℤ). take i all ++ take 1 l) next, sym (drop-drop 1 i all) ∙ ap (drop 1) next)

-- the figure of a turn is stored after those that are done
pub stored_turn : (all : List ℤ) (i now : ℕ) (s before after : List ℕ) (at : ℕ) → i ≤ length all → before ≡ sets s at (figures_bytes (take i all)) → now < 2 ^ 63
    → take (i + 1) all ≡ take i all ++ (pos now ∷ []) → after ≡ sets before (at + 8 * i) (figure_bytes (to_z w64 now)) → after ≡ sets s at (figures_bytes (take (i + 1) all))
stored_turn all i now s before after at h e few t f =
    let done : length (take i all) ≡ i = length-take-le i all h in
    f ∙ rw (e, to_z_pos w64 few, t) (stored_one (take i all) (pos now) s at (at + 8 * i) (omega arith))
