-- #106, "At most two CR a year": how many are among a list's records, and one more record after them.
-- Assumes nothing.
use Rattle.std.proofs.Common.{ℕ, ◌+◌, ◌≤◌, ◌≡◌, refl, ◌∙◌, Bool, true, false, cond, List, [], ◌∷◌, ◌++◌, add_assoc, arith, eqb}
use Rattle.activity.specs.Records.{Activity}
use Rattle.activity.specs.Activity.{ActivityInRange, residue_one, residues}
use Rattle.dossier.specs.Marks.{mark_cr}
use Rattle.dossier.specs.Layouts.{Layout, fuel, vehicles, nitrogen, lime, layout_of, activity_bytes}
use Rattle.dossier.specs.Reader.{refused, accepted, Reader, ◌>>=◌, ◌>>◌, refuse, stands, is, upon, present, field, followed}
use Rattle.dossier.specs.JudgingRecords.{row_under, activity_mark, activity_under, activity}
use Rattle.dossier.specs.Judging.{third_residue, another}
use Rattle.dossier.proofs.ReaderLaws.{stands_here}
use Rattle.dossier.proofs.ActivityLaws.{begins_with, activity-is, activity-long, under-mark, activity_exact}

pub residues-append : (l m : List Activity) → residues (l ++ m) ≡ residues l + residues m
residues-append [] m = omega arith
residues-append (a ∷ l) m = rw (residues-append l m, add_assoc)

-- a record is CR by its mark
pub residue-mark : (a : Activity) → residue_one a ≡ cond (eqb (layout_of a).mark mark_cr) 1 0
residue-mark a = grind arith

-- ---- the records that are no CR
abbrev pub ordinary : List Layout
ordinary = fuel ∷ vehicles ∷ nitrogen ∷ lime ∷ []

unfoldable pub ordinary_activity : Reader Activity
ordinary_activity = present 2 >> (field 2 >>= row_under ordinary)

-- are read as any record, where no mark of CR stands
ordinary-under : (m : ℕ) (u : List ℕ) (b : Bool) → is mark_cr m ≡ b → cond b true false ≡ false → activity_under m u ≡ row_under ordinary m u
unfolding activity_under
ordinary-under m u b e f = grind arith

ordinary-read : (s : List ℕ) → stands (λ m. cond (is mark_cr m) true false) s ≡ false → activity s ≡ ordinary_activity s
unfolding activity ordinary_activity present field followed
ordinary-read s e = grind (arith, ordinary-under, stands_here)

-- so after two of CR only they are left
pub only-ordinary : ◌≡◌ {A = Reader Activity} (upon (λ m. cond (is mark_cr m) true false) (refuse 9) activity) (upon (λ m. cond (is mark_cr m) true false) (refuse 9) ordinary_activity)
unfolding upon
only-ordinary = λ i s. go s (stands (λ m. cond (is mark_cr m) true false) s) (ordinary-read s) i
  where
    go : (s : List ℕ) (b : Bool) → (b ≡ false → activity s ≡ ordinary_activity s) → cond b (refuse 9 s) (activity s) ≡ cond b (refuse 9 s) (ordinary_activity s)
    go s true h = refl
    go s false h = h refl

-- ---- one more record
module _ (before : List Activity) where
  pub one_residue_more : (a : Activity) → residues (before ++ (a ∷ [])) ≡ residues before + residue_one a
  one_residue_more a = residues-append before (a ∷ []) ∙ omega arith

  -- it is no third CR, just where there are at most two with it
  not_third_lem : (a : Activity) → residues before + residue_one a ≤ 2 → third_residue before (layout_of a).mark ≡ false
  not_third_lem a h = grind arith

  no_third : (a : Activity) → residues before ≤ 2 → third_residue before (layout_of a).mark ≡ false → residues before + residue_one a ≤ 2
  no_third a h e = grind arith

  -- by its mark: with it there would be three
  pub third_counted : (m more : ℕ) → more ≡ residues before + cond (eqb m mark_cr) 1 0 → residues before ≤ 2 → third_residue before m ≡ eqb more 3
  third_counted m more e h = grind arith

  -- its mark is that of an activity record
  pub third_activity : (s : List ℕ) → stands (third_residue before) s ≡ true → stands activity_mark s ≡ true
  unfolding stands activity_mark
  third_activity s e = grind arith

  -- ---- its reader
  pub another-yes : (s : List ℕ) → stands (third_residue before) s ≡ false → another before s ≡ activity s
  unfolding another upon
  another-yes s e = rw e

  pub another_third : (s : List ℕ) → stands (third_residue before) s ≡ true → another before s ≡ refused 9
  unfolding another upon refuse
  another_third s e = rw e

  pub another-reads : (a : Activity) (t : List ℕ) → ActivityInRange a → residues (before ++ (a ∷ [])) ≤ 2 → another before (activity_bytes a ++ t) ≡ accepted a t
  another-reads a t p h = grind (arith, one_residue_more, another-yes, begins_with, not_third_lem, activity_exact)

  -- what it accepts is an activity record, and no third CR
  pub another-only : (s : List ℕ) {a : Activity} {t : List ℕ} → another before s ≡ accepted a t → activity s ≡ accepted a t
  unfolding another upon refuse
  another-only s {a} {t} q = grind arith

  stands-own : (kind : ℕ → Bool) (s : List ℕ) {a : Activity} {t : List ℕ} → activity s ≡ accepted a t → stands kind s ≡ kind (layout_of a).mark
  stands-own kind s q = grind (arith, activity-long, stands_here, under-mark, activity-is)

  pub another-few : (s : List ℕ) {a : Activity} {t : List ℕ} → another before s ≡ accepted a t → residues before ≤ 2 → residues (before ++ (a ∷ [])) ≤ 2
  another-few s {a} {t} q h = grind (arith, one_residue_more, another_third, no_third, stands-own, another-only)
