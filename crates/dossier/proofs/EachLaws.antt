-- Tests one after the other: they pass just where every fact holds that they ask for.
-- Assumes nothing.
use Rattle.std.proofs.Common.{ℕ, zero, suc, ◌<◌, ◌≡◌, refl, ◌⊎◌, List, arith}
use Rattle.activity.specs.Activity.{Within}
use Rattle.dossier.specs.Reader.{refused, accepted, Reader, ◌>>◌, give, outside, within, equal, followed}
use Rattle.dossier.specs.JudgingRecords.{each}
use Rattle.dossier.proofs.Exact.{Exact, test_then}

-- a test for each i, that reads nothing and is refused with the number n just where Holds i does not hold
pub record Tests (n : ℕ) (Holds : ℕ → Type 0) (test : ℕ → Reader (Unit {0})) : Type 0 where
  pub yes : (i : ℕ) (s : List ℕ) → Holds i → test i s ≡ accepted tt s
  pub only : (i : ℕ) (s : List ℕ) {x : Unit {0}} {u : List ℕ} → test i s ≡ accepted x u → Holds i × (s ≡ u)
  pub either : (i : ℕ) (s : List ℕ) → (test i s ≡ accepted tt s) ⊎ (test i s ≡ refused n)

pub equal_tests : (n : ℕ) (x y : ℕ → ℕ) → Tests n (λ i. x i ≡ y i) (λ i. equal n (x i) (y i))
unfolding equal
equal_tests n x y = grind arith

pub within_tests : (n low : ℕ) (x : ℕ → ℕ) (high : ℕ) → Tests n (λ i. Within low (x i) high) (λ i. within n low (x i) high)
unfolding within outside
within_tests n low x high = grind arith

module _ {n : ℕ} {Holds : ℕ → Type 0} {test : ℕ → Reader (Unit {0})} (t : Tests n Holds test) where
  -- the first k facts
  abbrev AllTo : ℕ → Type 0
  AllTo k = (i : ℕ) → i < k → Holds i

  pub each-yes : (k : ℕ) (s : List ℕ) → AllTo k → each k test s ≡ accepted tt s
  unfolding each give followed
  each-yes zero s h = refl
  each-yes (suc k) s h = rw (each-yes k s (λ i l. h i (omega arith))) (t.yes k s (h k (omega arith)))

  pub each-only : (k : ℕ) (s : List ℕ) {x : Unit {0}} {u : List ℕ} → each k test s ≡ accepted x u → AllTo k × (s ≡ u)
  unfolding each give followed
  each-only zero s e = grind arith
  each-only (suc k) s e = grind (arith, t.only k, each-only k s)

  pub each-either : (k : ℕ) (s : List ℕ) → (each k test s ≡ accepted tt s) ⊎ (each k test s ≡ refused n)
  unfolding each give followed
  each-either zero s = grind arith
  each-either (suc k) s = grind (arith, each-either k s)

  -- one of the first k does not hold: n
  pub each_wrong : (k : ℕ) (s : List ℕ) (i : ℕ) → i < k → (Holds i → ⊥) → each k test s ≡ refused n
  each_wrong k s i l f = grind (arith, each-either, each-only)

  pub each_then : {B : Type 0} {C : B → Type 0} {P : B → List ℕ → Type 0} {m : ℕ} {r : Reader B} {e : B → List ℕ} (k : ℕ)
      → ((b : B) (u : List ℕ) → C b → P b u → AllTo k) → (AllTo k → Exact m C r e P) → Exact m C (each k test >> r) e P
  each_then k = test_then (each-yes k) (λ s u. each-only k s)
