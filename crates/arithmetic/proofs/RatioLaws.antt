-- A fraction that is the natural a over n: how the operations carry that on. It brings sums of fractions back to sums of naturals.
-- Assumes nothing.
use mathlib.Core.Path.{◌≡◌, refl, ap, ◌∙◌}
use Prim.Native.Nat.{ℕ, zero, suc, ◌+◌, ◌*◌, ◌≤◌, ◌<◌}
use native.Mathlib.Nat.{le_refl, le_step, mul-le-mul_right, le_of_mul-le-mul_right, zero-mul, one-mul, mul-one}
use native.Mathlib.Omega.{arith}
use lib.IntN.{ℤ, pos, negsuc, ◌+ℤ◌, ◌*ℤ◌}
use Rattle.arithmetic.specs.Fraction.{Fraction, ◌≤ᶠ◌, whole, ◌+ᶠ◌, ◌×ᶠ◌, ◌÷ᶠ◌by◌, fraction_sum}
use Rattle.arithmetic.specs.Sum.{sum}
use Rattle.arithmetic.proofs.IntegerLaws.{below, mul-above, mul-below}
use Rattle.arithmetic.proofs.FractionLaws.{over, under, sum_parts, sum-den, parts_≤ᶠ}

-- x is a over n
pub record Ratio (x : Fraction) (a n : ℕ) : Type 0 where
  pub equal : over x * n ≡ a * x.den
  pub sign : under x ≡ 0

pub ratio-whole : (a n : ℕ) → Ratio (whole (pos a)) (a * n) n
unfolding whole
ratio-whole a n = record { equal = omega arith; sign = refl }

pub ratio_times : {x : Fraction} {a n : ℕ} (k : ℕ) → Ratio x a n → Ratio (x ×ᶠ k) (a * k) n
unfolding ◌×ᶠ◌
ratio_times {x} {a} {n} k h = record { equal = rw (mul-above x.num k) (omega (arith, ap (λ (s : ℕ). s * k) h.equal)); sign = rw (mul-below x.num k) (rw h.sign (omega arith)) }

pub ratio_divided : {x : Fraction} {a n : ℕ} (m : ℕ) (m-pos : 0 < m) → Ratio x a n → Ratio (x ÷ᶠ m by m-pos) a (n * m)
unfolding ◌÷ᶠ◌by◌
ratio_divided m m-pos h = record { equal = omega (arith, ap (λ (s : ℕ). s * m) h.equal); sign = h.sign }

-- a natural, and its quotient by m
pub ratio_natural : (a : ℕ) → Ratio (whole (pos a)) a 1
ratio_natural a = simp mul-one at (ratio-whole a 1)

pub ratio_quotient : {x : Fraction} {a : ℕ} (m : ℕ) (m-pos : 0 < m) → Ratio x a 1 → Ratio (x ÷ᶠ m by m-pos) a m
ratio_quotient m m-pos h = simp one-mul at (ratio_divided m m-pos h)

plus-sign : (a b : ℤ) → below a ≡ 0 → below b ≡ 0 → below (a +ℤ b) ≡ 0
plus-sign (pos a) (pos b) h k = refl
plus-sign (pos a) (negsuc b) h k = let z : ⊥ = omega arith in absurd z
plus-sign (negsuc a) b h k = let z : ⊥ = omega arith in absurd z

sum-sign : (x y : Fraction) → under x ≡ 0 → under y ≡ 0 → under (x +ᶠ y) ≡ 0
unfolding ◌+ᶠ◌
sum-sign x y h k = plus-sign (x.num *ℤ pos y.den) (y.num *ℤ pos x.den) (mul-below x.num y.den ∙ rw h (omega arith)) (mul-below y.num x.den ∙ rw k (omega arith))

joined : (p d p' d' a b n s : ℕ) → p * n ≡ a * d → p' * n ≡ b * d' → s ≡ p * d' + p' * d → s * n ≡ (a + b) * (d * d')
joined p d p' d' a b n s e e' v = rw v (omega (arith, ap (λ (t : ℕ). t * d') e, ap (λ (t : ℕ). t * d) e'))

pub ratio-sum : {x y : Fraction} {a b n : ℕ} → Ratio x a n → Ratio y b n → Ratio (x +ᶠ y) (a + b) n
ratio-sum {x} {y} {a} {b} {n} h k = record {
  equal = rw (sum-den x y) (joined (over x) x.den (over y) y.den a b n (over (x +ᶠ y)) h.equal k.equal
      (omega (arith, sum_parts x y, sum-sign x y h.sign k.sign, ap (λ (t : ℕ). t * y.den) h.sign, ap (λ (t : ℕ). t * x.den) k.sign)));
  sign = sum-sign x y h.sign k.sign;
}

pub ratio-fraction_sum : (k : ℕ) (x : ℕ → Fraction) (a : ℕ → ℕ) {n : ℕ} → ((i : ℕ) → i < k → Ratio (x i) (a i) n) → Ratio (fraction_sum k x) (sum k a) n
unfolding sum fraction_sum
ratio-fraction_sum zero x a {n} h = rw zero-mul at (ratio-whole 0 n)
ratio-fraction_sum (suc k) x a h = ratio-sum (ratio-fraction_sum k x a (λ i l. h i (le_step l))) (h k (le_refl (suc k)))

-- a natural is at most a fraction that is a over n
pub ratio-above : {x : Fraction} {a n : ℕ} (z : ℕ) → 0 < n → Ratio x a n → z * n ≤ a → whole (pos z) ≤ᶠ x
unfolding whole
ratio-above {x} {a} {n} z n_pos h k =
    let fits : z * x.den ≤ over x = le_of_mul-le-mul_right {k = n} (omega (arith, mul-le-mul_right x.den k, h.equal)) n_pos in
    parts_≤ᶠ (omega (arith, fits, h.sign))
