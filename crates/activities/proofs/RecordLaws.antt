-- Each step of a record's reader at a place, from what was read and tested there, and a test of all the ranges at once.
-- Assumes nothing.
use Prim.Native.Nat.{ℕ, ◌+◌, ◌-◌, ◌≤◌, ◌<◌}
use mathlib.Core.Path.{◌≡◌, refl, ◌∙◌, sym}
use mathlib.Core.Bool.{Bool, true, false, cond}
use mathlib.Core.List.{List, [], ◌∷◌}
use native.Mathlib.Nat.{add-zero, add_assoc}
use native.Mathlib.Omega.{arith}
use borrow.Author.Tests.{lt-ltb, le-ltb}
use lib.ListN.{length, drop, length-drop}
use Rattle.activity.specs.Records.{Activity}
use Rattle.activity.specs.Records.Activity.{Fuel, Lime}
use Rattle.activity.specs.Activity.{Range, Within}
use Rattle.wire.specs.Bytes.{field_at, total}
use Rattle.dossier.specs.Layouts.{fuel, lime}
use Rattle.dossier.specs.Reader.{Judged, refused, accepted, Reader, followed, ◌>>=◌, ◌>>◌, give, present, field, outside, within}
use Rattle.dossier.specs.JudgingRecords.{in_range, fields_of}
use Rattle.cursor.proofs.AtLaws.{field_is, within-is, give-is}

-- a number in a range is not outside it
pub inside : (low x high : ℕ) → Within low x high → outside low x high ≡ false
unfolding outside
inside low x high h = grind arith

not-outside : (low x high : ℕ) → outside low x high ≡ false → Within low x high
unfolding outside
not-outside low x high e = grind arith

-- bytes are missing
pub missing : {A : Type 0} (n : ℕ) (q : Reader A) (s : List ℕ) (at : ℕ) → length s - at < n → refused 1 ≡ (present n >> q) (drop at s)
unfolding present followed
missing n q s at h = let l : length (drop at s) < n = rw length-drop h in simp (lt-ltb _ _ l)

module _ {A : Type 0} {j : Judged A} where
  -- none is missing, and the fields begin here
  pub present_then : (n : ℕ) (q : Reader A) (s : List ℕ) (at : ℕ) → n ≤ length s - at → j ≡ q (drop (at + 0) s) → j ≡ (present n >> q) (drop at s)
  unfolding present followed
  present_then n q s at h e = let l : n ≤ length (drop at s) = rw length-drop h in e ∙ simp (add-zero, le-ltb _ _ l)

  -- a field that was read: the first, or one after others
  pub field-first : (w : ℕ) (k : ℕ → Reader A) (s : List ℕ) (at x : ℕ) → x ≡ field_at w s at → j ≡ k x (drop (at + w) s) → j ≡ (field w >>= k) (drop (at + 0) s)
  field-first w k s at x h e = e ∙ rw (add-zero, field_is w k s at, h)

  pub field_then : (w : ℕ) (k : ℕ → Reader A) (s : List ℕ) (at before x : ℕ) → x ≡ field_at w s (at + before) → j ≡ k x (drop (at + (before + w)) s)
      → j ≡ (field w >>= k) (drop (at + before) s)
  field_then w k s at before x h e = e ∙ rw (field_is w k s (at + before), add_assoc, h)

  -- a field in range
  pub inside_then : (n low x high : ℕ) (q : Reader A) (u : List ℕ) (b : Bool) → b ≡ outside low x high → b ≡ false → j ≡ q u → j ≡ (within n low x high >> q) u
  inside_then n low x high q u b h f e = e ∙ rw (within-is n low x high q u, ← h, f)

-- a field out of range
pub outside_then : {A : Type 0} (n low x high : ℕ) (q : Reader A) (u : List ℕ) (b : Bool) → b ≡ outside low x high → b ≡ true → refused n ≡ (within n low x high >> q) u
outside_then n low x high q u b h f = rw (within-is n low x high q u, ← h, f)

-- every field in range
pub given : {A : Type 0} (a : A) (u : List ℕ) → accepted a u ≡ give a u
given a u = sym (give-is a u)

-- what a passed test says of its field
pub at_most : (x high : ℕ) (b : Bool) → b ≡ outside 0 x high → b ≡ false → x ≤ high
at_most x high b h f = (not-outside 0 x high (sym h ∙ f)).most

-- ---- a test of all the ranges at once
-- one number's test: out, inside, or as wide as its field
pub out_yes : (low x high : ℕ) (q b : Bool) → b ≡ outside low x high → b ≡ true → true ≡ cond (outside low x high) true q
out_yes low x high q b h t = rw (← h, t)

module _ {r : Bool} where
  pub out_no : (low x high : ℕ) (q b : Bool) → b ≡ outside low x high → b ≡ false → r ≡ q → r ≡ cond (outside low x high) true q
  out_no low x high q b h f e = rw (← h, f) e

  pub out_never : (x high : ℕ) (q : Bool) → x ≤ high → r ≡ q → r ≡ cond (outside 0 x high) true q
  out_never x high q h e = rw (inside 0 x high (record { least = omega arith; most = h })) e

  pub out_last : (b : Bool) → r ≡ b → r ≡ cond b true false
  out_last true e = e
  out_last false e = e

-- the record whose ranges were tested so
abbrev pub any_outside : List Range → Bool
any_outside [] = false
any_outside (r ∷ rest) = cond (outside r.low r.number r.high) true (any_outside rest)

pub in_range-is : (rs : List Range) (a : Activity) (u : List ℕ) → in_range rs a u ≡ cond (any_outside rs) (refused 8) (accepted a u)
unfolding in_range
in_range-is [] a u = give-is a u
in_range-is (r ∷ rest) a u =
    within-is 8 r.low r.number r.high (in_range rest a) u ∙ go (outside r.low r.number r.high) (in_range-is rest a u)
  where
    go : (b : Bool) → in_range rest a u ≡ cond (any_outside rest) (refused 8) (accepted a u)
        → cond b (refused 8) (in_range rest a u) ≡ cond (cond b true (any_outside rest)) (refused 8) (accepted a u)
    go true e = refl
    go false e = e

pub ranges_out : (rs : List Range) (a : Activity) (u : List ℕ) (b : Bool) → b ≡ any_outside rs → b ≡ true → refused 8 ≡ in_range rs a u
ranges_out rs a u b h t = sym (in_range-is rs a u ∙ rw (← h, t))

pub ranges_in : (rs : List Range) (a : Activity) (u : List ℕ) (b : Bool) → b ≡ any_outside rs → b ≡ false → accepted a u ≡ in_range rs a u
ranges_in rs a u b h f = sym (in_range-is rs a u ∙ rw (← h, f))

-- ---- FU and LI: the same fields and ranges, made into one or the other
abbrev amount_of : Bool → ℕ → ℕ → Activity
amount_of b kind grams = cond b (Fuel kind grams) (Lime kind grams)

pub amount : {j : Judged Activity} (b : Bool) (u : List ℕ)
    → j ≡ (present 9 >> (field 1 >>= λ kind. field 8 >>= λ grams. within 8 1 kind 3 >> (within 8 0 grams 1000000000000 >> give (amount_of b kind grams)))) u
    → j ≡ fields_of (cond b fuel lime) u
unfolding fields_of total in_range
amount true u e = e
amount false u e = e

pub given-fuel : (b : Bool) (kind grams : ℕ) (u : List ℕ) → b ≡ true → accepted (Fuel kind grams) u ≡ give (amount_of b kind grams) u
given-fuel b kind grams u h = rw h (given _ u)

pub given-lime : (b : Bool) (kind grams : ℕ) (u : List ℕ) → b ≡ false → accepted (Lime kind grams) u ≡ give (amount_of b kind grams) u
given-lime b kind grams u h = rw h (given _ u)
