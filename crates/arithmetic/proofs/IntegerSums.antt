-- Laws of sums of integers.
-- Assumes nothing.
use mathlib.Core.Path.{◌≡◌, refl, sym}
use Prim.Native.Nat.{ℕ, zero, suc, ◌+◌, ◌*◌, ◌≤◌, ◌<◌}
use native.Mathlib.Nat.{le_refl, le_step}
use native.Mathlib.Numerals.{add-one}
use native.Mathlib.Omega.{arith}
use lib.IntN.{ℤ, pos, ◌+ℤ◌, ◌-ℤ◌, +ℤ_assoc, +ℤ_idr, +ℤ_comm, +ℤ-neg_ℤ_cancel}
use lib.Signed.{mag}
use Rattle.arithmetic.specs.Sum.{int_sum}
use Rattle.arithmetic.proofs.IntegerLaws.{mag_plus}

-- for a loop that adds one term a turn
pub int_sum-none : (f : ℕ → ℤ) → int_sum 0 f ≡ pos 0
unfolding int_sum
int_sum-none f = refl

pub int_sum-next : (n : ℕ) (f : ℕ → ℤ) → int_sum (n + 1) f ≡ int_sum n f +ℤ f n
unfolding int_sum
int_sum-next n f = rw add-one refl

pub int_sum_cong : (n : ℕ) (f g : ℕ → ℤ) → ((i : ℕ) → i < n → f i ≡ g i) → int_sum n f ≡ int_sum n g
unfolding int_sum
int_sum_cong zero f g e = refl
int_sum_cong (suc n) f g e = rw (int_sum_cong n f g (λ i h. e i (le_step h)), e n (le_refl (suc n)))

-- the first m terms and the k after them
pub int_sum_split : (m k : ℕ) (f : ℕ → ℤ) → int_sum (m + k) f ≡ int_sum m f +ℤ int_sum k (λ j. f (m + j))
unfolding int_sum
int_sum_split m zero f = let e : m + 0 ≡ m = omega arith in rw e (sym (+ℤ_idr (int_sum m f)))
int_sum_split m (suc k) f =
    let e : m + suc k ≡ suc (m + k) = omega arith in
    rw e (rw (int_sum_split m k f) (+ℤ_assoc (int_sum m f) (int_sum k (λ j. f (m + j))) (f (m + k))))

-- the first term and those after it
pub int_sum-first : (n : ℕ) (f : ℕ → ℤ) → int_sum (suc n) f ≡ f 0 +ℤ int_sum n (λ i. f (suc i))
unfolding int_sum
int_sum-first zero f = +ℤ_comm (pos 0) (f 0)
int_sum-first (suc n) f = rw (int_sum-first n f) (+ℤ_assoc (f 0) (int_sum n (λ i. f (suc i))) (f (suc n)))

-- what two sums differ by is the sum of the terms between them
pub int_sum_between : (m k : ℕ) (f : ℕ → ℤ) → int_sum (m + k) f -ℤ int_sum m f ≡ int_sum k (λ j. f (m + j))
int_sum_between m k f =
    let between = int_sum k (λ j. f (m + j)) in
    rw (int_sum_split m k f, +ℤ_comm (int_sum m f) between) (+ℤ-neg_ℤ_cancel between (int_sum m f))

-- its size
pub int_sum_mag : (g n : ℕ) (f : ℕ → ℤ) → ((i : ℕ) → i < n → mag (f i) < g) → mag (int_sum n f) ≤ g * n
unfolding int_sum
int_sum_mag g zero f h = omega arith
int_sum_mag g (suc n) f h = omega (arith, int_sum_mag g n f (λ i l. h i (le_step l)), h n (le_refl (suc n)), mag_plus (int_sum n f) (f n))
