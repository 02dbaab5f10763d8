-- A fraction near a whole number: at most k below it and at most l above it, in hundredths.
-- Assumes nothing.
use mathlib.Core.Path.{◌≡◌, sym, ap}
use Prim.Native.Nat.{ℕ, ◌+◌, ◌*◌, ◌≤◌, ◌<◌}
use native.Mathlib.Nat.{mul-le-mul_right, le_of_mul-le-mul_right, mul-lt-mul_of_pos_right}
use native.Mathlib.Omega.{arith}
use lib.IntN.{ℤ, pos, negsuc, ◌+ℤ◌, ◌-ℤ◌, neg_ℤ}
use Rattle.arithmetic.specs.Rounding.{positive_part}
use Rattle.arithmetic.specs.Fraction.{Fraction, ◌≤ᶠ◌, ◌<ᶠ◌, whole, ◌+ᶠ◌, ◌-ᶠ◌, fraction_neg, ◌×ᶠ◌, if_positive}
use Rattle.arithmetic.proofs.IntegerLaws.{above, below, add_parts, neg-above, neg-below, mul-above, mul-below}
use Rattle.arithmetic.proofs.FractionLaws.{over, under, sum_parts, sum-den, parts_≤ᶠ, parts_<ᶠ, positive-above, positive-below}
use Rattle.arithmetic.proofs.RatioLaws.{Ratio}

pub record Near (z : ℤ) (x : Fraction) (k l : ℕ) : Type 0 where
  pub low : 100 * (above z * x.den) + 100 * under x ≤ 100 * over x + (100 * below z + k) * x.den
  pub high : 100 * (below z * x.den) + 100 * over x ≤ 100 * under x + (100 * above z + l) * x.den

pub near_wider : {z : ℤ} {x : Fraction} {k k' l l' : ℕ} → k ≤ k' → l ≤ l' → Near z x k l → Near z x k' l'
near_wider {z} {x} {k} {k'} {l} {l'} a b h = record { low = omega (arith, h.low, mul-le-mul_right x.den a); high = omega (arith, h.high, mul-le-mul_right x.den b) }

-- of a fraction that is a over n
pub near_ratio : {x : Fraction} {a n : ℕ} (z k l : ℕ) → 0 < n → Ratio x a n → 100 * (z * n) ≤ 100 * a + k * n → 100 * a ≤ (100 * z + l) * n → Near (pos z) x k l
near_ratio {x} {a} {n} z k l n_pos h low high = record {
  low = le_of_mul-le-mul_right {k = n} (omega (arith, mul-le-mul_right x.den low, ap (λ (s : ℕ). s * 100) h.equal, ap (λ (s : ℕ). 100 * s * n) h.sign)) n_pos;
  high = le_of_mul-le-mul_right {k = n} (omega (arith, mul-le-mul_right x.den high, ap (λ (s : ℕ). s * 100) h.equal, ap (λ (s : ℕ). 100 * s * n) h.sign)) n_pos;
}

-- ---- the operations
near_neg : {z : ℤ} {x : Fraction} {k l : ℕ} → Near z x k l → Near (neg_ℤ z) (fraction_neg x) l k
unfolding fraction_neg
near_neg {z} {x} {k} {l} h = record { low = simp (neg-above, neg-below) (omega (arith, h.high)); high = simp (neg-above, neg-below) (omega (arith, h.low)) }

-- (the facts come in multiplied, so that `omega` reads nothing else)
sum_multiplied : (p m d p' m' d' s t a b a' b' c e k k' : ℕ) → (s + (m * d' + m' * d)) * 100 ≡ (t + (p * d' + p' * d)) * 100 → (c + (b + b')) * (100 * (d * d')) ≡ (e + (a + a')) * (100 * (d * d'))
    → (100 * (a * d) + 100 * m) * d' ≤ (100 * p + (100 * b + k) * d) * d' → (100 * (a' * d') + 100 * m') * d ≤ (100 * p' + (100 * b' + k') * d') * d
    → 100 * (c * (d * d')) + 100 * t ≤ 100 * s + (100 * e + (k + k')) * (d * d')
sum_multiplied p m d p' m' d' s t a b a' b' c e k k' v w h h' = omega arith

sum_side : (p m d p' m' d' s t a b a' b' c e k k' : ℕ) → s + (m * d' + m' * d) ≡ t + (p * d' + p' * d) → c + (b + b') ≡ e + (a + a')
    → 100 * (a * d) + 100 * m ≤ 100 * p + (100 * b + k) * d → 100 * (a' * d') + 100 * m' ≤ 100 * p' + (100 * b' + k') * d'
    → 100 * (c * (d * d')) + 100 * t ≤ 100 * s + (100 * e + (k + k')) * (d * d')
sum_side p m d p' m' d' s t a b a' b' c e k k' v w h h' =
    sum_multiplied p m d p' m' d' s t a b a' b' c e k k' (ap (λ (n : ℕ). n * 100) v) (ap (λ (n : ℕ). n * (100 * (d * d'))) w) (mul-le-mul_right d' h) (mul-le-mul_right d h')

pub near_sum : {z z' : ℤ} {x x' : Fraction} {k k' l l' : ℕ} → Near z x k l → Near z' x' k' l' → Near (z +ℤ z') (x +ᶠ x') (k + k') (l + l')
near_sum {z} {z'} {x} {x'} {k} {k'} {l} {l'} h h' = record {
  low = rw (sum-den x x') (sum_side (over x) (under x) x.den (over x') (under x') x'.den (over (x +ᶠ x')) (under (x +ᶠ x'))
      (above z) (below z) (above z') (below z') (above (z +ℤ z')) (below (z +ℤ z')) k k'
      (sum_parts x x') (add_parts z z') h.low h'.low);
  high = rw (sum-den x x') (sum_side (under x) (over x) x.den (under x') (over x') x'.den (under (x +ᶠ x')) (over (x +ᶠ x'))
      (below z) (above z) (below z') (above z') (below (z +ℤ z')) (above (z +ℤ z')) l l'
      (sym (sum_parts x x')) (sym (add_parts z z')) h.high h'.high);
}

pub near_minus : {z z' : ℤ} {x x' : Fraction} {k k' l l' : ℕ} → Near z x k l → Near z' x' k' l' → Near (z -ℤ z') (x -ᶠ x') (k + l') (l + k')
unfolding ◌-ᶠ◌
near_minus h h' = near_sum h (near_neg h')

pub near_positive : {z : ℤ} {x : Fraction} {k l : ℕ} → Near z x k l → Near (positive_part z) (if_positive x) k l
unfolding if_positive
near_positive {z} {x} {k} {l} h = record { low = simp (positive-above, positive-below) (go_low z h.low); high = simp (positive-above, positive-below) (go_high x.num h.high) }
  where
    go_low : (y : ℤ) → 100 * (above y * x.den) + 100 * under x ≤ 100 * over x + (100 * below y + k) * x.den → 100 * (above y * x.den) + 100 * 0 ≤ 100 * over x + (100 * 0 + k) * x.den
    go_low (pos n) f = omega arith
    go_low (negsuc n) f = omega arith

    go_high : (y : ℤ) → 100 * (below z * x.den) + 100 * above y ≤ 100 * below y + (100 * above z + l) * x.den → 100 * (0 * x.den) + 100 * above y ≤ 100 * 0 + (100 * above z + l) * x.den
    go_high (pos n) f = omega arith
    go_high (negsuc n) f = omega arith

-- ---- from nearness to the orders of fractions
pub near_≤ᶠ : {z : ℤ} {x : Fraction} {l : ℕ} → Near z x 0 l → whole z ≤ᶠ x
unfolding whole
near_≤ᶠ {z} {x} h = parts_≤ᶠ (omega (arith, h.low))

gap_parts : (z : ℤ) (x : Fraction) → over (x -ᶠ whole z) + (under x + above z * x.den) ≡ under (x -ᶠ whole z) + (over x + below z * x.den)
unfolding whole ◌-ᶠ◌ fraction_neg
gap_parts z x = omega (arith, simp (neg-above, neg-below) at (sum_parts x (fraction_neg (whole z))))

gap-den : (z : ℤ) (x : Fraction) → (x -ᶠ whole z).den ≡ x.den
unfolding whole ◌-ᶠ◌ fraction_neg ◌+ᶠ◌
gap-den z x = omega arith

-- c times the gap is below b
pub near_gap : {z : ℤ} {x : Fraction} {l : ℕ} (b c : ℕ) → Near z x 0 l → l * c < 100 * b → (x -ᶠ whole z) ×ᶠ c <ᶠ whole (pos b)
unfolding whole ◌×ᶠ◌
near_gap {z} {x} {l} b c h k =
    let parts = ap (λ (n : ℕ). n * (100 * c)) (gap_parts z x) in
    parts_<ᶠ (simp (gap-den, mul-above, mul-below) (omega (arith, parts, mul-le-mul_right c h.high, mul-lt-mul_of_pos_right k x.positive)))
