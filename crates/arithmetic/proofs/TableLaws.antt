-- A rule of a constant table is one computed test over the whole table, and holds at each entry.
-- Assumes nothing.
use mathlib.Core.Path.{◌≡◌}
use mathlib.Core.Bool.{Bool, true, false, ◌&&◌}
use mathlib.Core.List.{List, [], ◌∷◌}
use mathlib.Core.Logic.{◌⊎◌, inl, inr}
use Prim.Native.Nat.{ℕ, zero, suc, ◌≤◌, ◌<◌}
use native.Mathlib.Nat.{eq-or-lt_of_le, le_of_suc-le-suc}
use native.Mathlib.Omega.{arith}
use lib.Dec.{T, leb, leb→le}
use lib.ListN.{length, get_or}

both : (a b : Bool) → T (a && b) → T a × T b
both true true h = (tt, tt)
both true false h = absurd h
both false b h = absurd h

-- the test f holds of 0, 1, .., n - 1
unfoldable pub all : ℕ → (ℕ → Bool) → Bool
all zero f = true
all (suc n) f = f n && all n f

pub all-at : (n : ℕ) (f : ℕ → Bool) → T (all n f) → (i : ℕ) → i < n → T (f i)
unfolding all
all-at zero f h i k = let z : ⊥ = omega arith in absurd z
all-at (suc n) f h i k = go (eq-or-lt_of_le (le_of_suc-le-suc k)) (λ l. all-at n f (both (f n) (all n f) h).1 i l)
  where
    go : (i ≡ n) ⊎ (i < n) → (i < n → T (f i)) → T (f i)
    go (inl e) ih = rw e (both (f n) (all n f) h).0
    go (inr l) ih = ih l

-- every entry is at most g
unfoldable pub at_most : ℕ → List ℕ → Bool
at_most g [] = true
at_most g (x ∷ xs) = leb x g && at_most g xs

pub entry-le : (g : ℕ) (xs : List ℕ) → T (at_most g xs) → (i : ℕ) → get_or xs i 0 ≤ g
unfolding at_most
entry-le g [] h i = omega arith
entry-le g (x ∷ xs) h zero = leb→le x g (both (leb x g) (at_most g xs) h).0
entry-le g (x ∷ xs) h (suc i) = entry-le g xs (both (leb x g) (at_most g xs) h).1 i

-- at most g at every place of the list, and so at any
pub places-le : (g : ℕ) (xs : List ℕ) → ((i : ℕ) → i < length xs → get_or xs i 0 ≤ g) → (i : ℕ) → get_or xs i 0 ≤ g
places-le g [] h i = omega arith
places-le g (x ∷ xs) h zero = h 0 (omega arith)
places-le g (x ∷ xs) h (suc i) = places-le g xs (λ j l. h (suc j) (omega arith)) i
