-- Laws of fractions. Each is a fact of naturals, by the parts of the numerators.
-- Assumes nothing.
use mathlib.Core.Path.{◌≡◌, refl}
use Prim.Native.Nat.{ℕ, ◌+◌, ◌*◌, ◌≤◌, ◌<◌}
use native.Mathlib.Nat.{mul-le-mul_right, lt_of_mul-lt-mul_right}
use native.Mathlib.Omega.{arith}
use lib.IntN.{ℤ, pos, negsuc, ◌*ℤ◌}
use Rattle.arithmetic.specs.Rounding.{positive_part}
use Rattle.arithmetic.specs.Fraction.{Fraction, ◌≤ᶠ◌, ◌<ᶠ◌, whole, ◌+ᶠ◌, ◌×ᶠ◌}
use Rattle.arithmetic.proofs.IntegerLaws.{above, below, parts_le, parts_lt, le_parts, lt_parts, add_parts, mul-above, mul-below}

-- the two parts of a fraction's numerator
abbrev pub over : Fraction → ℕ
over x = above x.num

abbrev pub under : Fraction → ℕ
under x = below x.num

-- a numerator times the other's denominator, by the parts
crossed : (x y : Fraction) → (above (x.num *ℤ pos y.den) ≡ over x * y.den) × (below (x.num *ℤ pos y.den) ≡ under x * y.den)
crossed x y = (mul-above x.num y.den, mul-below x.num y.den)

-- the orders, by the parts
pub parts_≤ᶠ : {x y : Fraction} → over x * y.den + under y * x.den ≤ over y * x.den + under x * y.den → x ≤ᶠ y
parts_≤ᶠ {x} {y} h = record { cross = parts_le (x.num *ℤ pos y.den) (y.num *ℤ pos x.den) (omega (arith, h, crossed x y, crossed y x)) }

pub ≤ᶠ_parts : {x y : Fraction} → x ≤ᶠ y → over x * y.den + under y * x.den ≤ over y * x.den + under x * y.den
≤ᶠ_parts {x} {y} h = omega (arith, le_parts (x.num *ℤ pos y.den) (y.num *ℤ pos x.den) h.cross, crossed x y, crossed y x)

pub parts_<ᶠ : {x y : Fraction} → over x * y.den + under y * x.den < over y * x.den + under x * y.den → x <ᶠ y
parts_<ᶠ {x} {y} h = record { cross = parts_lt (x.num *ℤ pos y.den) (y.num *ℤ pos x.den) (omega (arith, h, crossed x y, crossed y x)) }

pub <ᶠ_parts : {x y : Fraction} → x <ᶠ y → over x * y.den + under y * x.den < over y * x.den + under x * y.den
<ᶠ_parts {x} {y} h = omega (arith, lt_parts (x.num *ℤ pos y.den) (y.num *ℤ pos x.den) h.cross, crossed x y, crossed y x)

-- a fraction of which c times is below a is itself below b, where a is at most b times c
pub times_below : {x : Fraction} (a b c : ℕ) → x ×ᶠ c <ᶠ whole (pos a) → a ≤ b * c → x <ᶠ whole (pos b)
unfolding whole ◌×ᶠ◌
times_below {x} a b c h k =
    let times : over x * c < a * x.den + under x * c = omega (arith, <ᶠ_parts h, mul-above x.num c, mul-below x.num c) in
    let once : over x < b * x.den + under x = lt_of_mul-lt-mul_right c (omega (arith, times, mul-le-mul_right x.den k)) in
    parts_<ᶠ (omega (arith, once))

-- a sum, by the parts
pub sum_parts : (x y : Fraction) → over (x +ᶠ y) + (under x * y.den + under y * x.den) ≡ under (x +ᶠ y) + (over x * y.den + over y * x.den)
unfolding ◌+ᶠ◌
sum_parts x y = omega (arith, add_parts (x.num *ℤ pos y.den) (y.num *ℤ pos x.den), crossed x y, crossed y x)

pub sum-den : (x y : Fraction) → (x +ᶠ y).den ≡ x.den * y.den
unfolding ◌+ᶠ◌
sum-den x y = refl

-- the part that is positive
pub positive-above : (z : ℤ) → above (positive_part z) ≡ above z
positive-above (pos n) = refl
positive-above (negsuc n) = refl

pub positive-below : (z : ℤ) → below (positive_part z) ≡ 0
positive-below (pos n) = refl
positive-below (negsuc n) = refl
