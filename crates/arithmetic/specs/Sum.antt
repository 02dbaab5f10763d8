-- Sums over the numbers below n, and lists by their entries.
-- To be believed. Assumes nothing.
use Rattle.std.specs.Prelude.{ℕ, zero, suc, ◌+◌, List, [], ◌∷◌, ◌++◌, ℤ, pos, ◌+ℤ◌}

-- f 0 + f 1 + .. + f (n - 1)
unfoldable pub sum : ℕ → (ℕ → ℕ) → ℕ
sum zero f = 0
sum (suc n) f = sum n f + f n

-- the same of integers
unfoldable pub int_sum : ℕ → (ℕ → ℤ) → ℤ
int_sum zero f = pos 0
int_sum (suc n) f = int_sum n f +ℤ f n

-- f 0, f 1, .., f (n - 1)
unfoldable pub listed : {A : Type 0} → ℕ → (ℕ → A) → List A
listed zero f = []
listed (suc n) f = listed n f ++ (f n ∷ [])
