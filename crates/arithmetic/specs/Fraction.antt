-- A fraction: a whole number over a positive one. Two are compared by cross-multiplying. Nothing is ever reduced or rounded.
-- To be believed. Assumes nothing.
use Rattle.std.specs.Prelude.{ℕ, zero, suc, ◌*◌, ◌<◌, ℤ, pos, ◌+ℤ◌, ◌*ℤ◌, neg_ℤ, ◌≤ℤ◌, ◌<ℤ◌}
use Rattle.std.proofs.Common.{mul-pos, zero-lt-suc}
use Rattle.arithmetic.specs.Rounding.{positive_part}

pub record Fraction : Type 0 where
  pub num : ℤ
  pub den : ℕ
  pub positive : 0 < den

infix 50 ◌≤ᶠ◌ ◌<ᶠ◌
pub record ◌≤ᶠ◌ (x y : Fraction) : Type 0 where
  pub cross : (x.num *ℤ pos y.den) ≤ℤ (y.num *ℤ pos x.den)

pub record ◌<ᶠ◌ (x y : Fraction) : Type 0 where
  pub cross : (x.num *ℤ pos y.den) <ℤ (y.num *ℤ pos x.den)

-- a whole number
unfoldable pub whole : ℤ → Fraction
whole z = record { num = z; den = 1; positive = zero-lt-suc 0 }

infixl 60 ◌+ᶠ◌ ◌-ᶠ◌
unfoldable pub ◌+ᶠ◌ : (x y : Fraction) → Fraction
x +ᶠ y = record { num = x.num *ℤ pos y.den +ℤ y.num *ℤ pos x.den; den = x.den * y.den; positive = mul-pos x.positive y.positive }

unfoldable pub fraction_neg : Fraction → Fraction
fraction_neg x = record { num = neg_ℤ x.num; den = x.den; positive = x.positive }

unfoldable pub ◌-ᶠ◌ : (x y : Fraction) → Fraction
x -ᶠ y = x +ᶠ fraction_neg y

-- times a natural number, and divided by a positive one
infixl 70 ◌×ᶠ◌ ◌÷ᶠ◌by◌
unfoldable pub ◌×ᶠ◌ : Fraction → ℕ → Fraction
x ×ᶠ k = record { num = x.num *ℤ pos k; den = x.den; positive = x.positive }

unfoldable pub ◌÷ᶠ◌by◌ : Fraction → (m : ℕ) → 0 < m → Fraction
x ÷ᶠ m by m-pos = record { num = x.num; den = x.den * m; positive = mul-pos x.positive m-pos }

-- itself if that is positive, otherwise 0
unfoldable pub if_positive : Fraction → Fraction
if_positive x = record { num = positive_part x.num; den = x.den; positive = x.positive }

-- x 0 + x 1 + .. + x (n - 1)
unfoldable pub fraction_sum : ℕ → (ℕ → Fraction) → Fraction
fraction_sum zero x = whole (pos 0)
fraction_sum (suc n) x = fraction_sum n x +ᶠ x n
