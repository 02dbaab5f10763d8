-- YR where no year is left, from what a number says of it.
-- Assumes nothing.
use Prim.Native.Nat.{ℕ, ◌<◌}
use mathlib.Core.Path.{◌≡◌, refl, sym}
use mathlib.Core.List.{List, []}
use native.Mathlib.Omega.{arith}
use lib.ListN.{drop}
use borrow.Author.Tests.{ne_eqb}
use Rattle.dossier.specs.Marks.{mark_yr}
use Rattle.dossier.specs.Reader.{Judged, refused, accepted, after, followed, refuse, begin}
use Rattle.dossier.specs.Claims.{number_of}
use Rattle.dossier.specs.Judging.{none_left}
use Rattle.cursor.proofs.AtLaws.{number_says, begun_says, begun_no, begun-yes}

module _ (s : List ℕ) (at r : ℕ) (h : begun_says s at r ≡ begin mark_yr 4 (drop at s)) where
  pub left_cut : (r ≡ 0 → ⊥) → r ≡ number_of (none_left {A = Unit {0}} (drop at s))
  unfolding none_left
  left_cut f = rw (← begun_no s at mark_yr 4 r h (refuse 6) f)

  pub left-none : r ≡ 0 → 6 ≡ number_of (none_left {A = Unit {0}} (drop at s))
  unfolding none_left refuse
  left-none f = rw (← begun-yes s at mark_yr 4 r h (refuse 6) f)

-- whatever would be read, it is refused
pub none_left-is : {A : Type 0} (s : List ℕ) → none_left {A = A} s ≡ refused (number_of (none_left {A = Unit {0}} s))
unfolding none_left refuse followed
none_left-is s = go (begin mark_yr 4 s)
  where
    go : {A : Type 0} (j : Judged (Unit {0})) → ◌≡◌ {A = Judged A} (after j (λ _ u. refused 6)) (refused (number_of {A = Unit {0}} (after j (λ _ u. refused 6))))
    go (refused n) = refl
    go (accepted x u) = refl

pub left-says : (s : List ℕ) (n : ℕ) → (n ≡ number_of (none_left {A = Unit {0}} s)) × (0 < n) → number_says [] n ≡ none_left s
left-says s n g = let z : n ≡ 0 → ⊥ = λ e. omega arith in rw (ne_eqb _ _ z, g.0) (sym (none_left-is s))
