-- How far a credit is from its unrounded value, and that a greater unrounded reduction never credits less.
-- Assumes nothing.
use Rattle.std.proofs.Common.{ℕ, ◌+◌, ◌*◌, ◌/◌, ◌≤◌, mul-le-mul_right, div-mul-le_self, arith, ℤ, pos, negsuc}
use Rattle.arithmetic.specs.Fraction.{Fraction, ◌≤ᶠ◌, ◌×ᶠ◌, ◌÷ᶠ◌by◌}
use Rattle.arithmetic.proofs.FractionLaws.{parts_≤ᶠ, ≤ᶠ_parts}
use Rattle.arithmetic.proofs.NearLaws.{Near}
use Rattle.figures.specs.Figures.{credited_of}
use Rattle.assurance.specs.Unrounded.{fraction_credited}

-- z over the denominator of x
abbrev over-den : ℤ → Fraction → Fraction
over-den z x = record { num = z; den = x.den; positive = x.positive }

-- if a reduction is at most l below its unrounded value, so is its credit, for an l of 4 grams or more: the discount takes a fifth of l off, at least
-- 80 hundredths, and rounding the credit down costs at most 80
pub near_credited : {z : ℤ} {x : Fraction} (l : ℕ) → 400 ≤ l → Near z x 0 l → Near (credited_of z) (fraction_credited x) 0 l
unfolding credited_of fraction_credited ◌×ᶠ◌ ◌÷ᶠ◌by◌
near_credited {z} {x} l wide h = go z x.num h
  where
    remainder : (a : ℕ) → a ≤ a / 5 * 5 + 4
    remainder a = omega arith

    go : (z n : ℤ) → Near z (over-den n x) 0 l → Near (credited_of z) (fraction_credited (over-den n x)) 0 l
    go (pos a) (pos n) h = record {
      low = omega (arith, h.low, mul-le-mul_right (100 * x.den) (div-mul-le_self (a * 4) 5));
      high = omega (arith, h.high, mul-le-mul_right (100 * x.den) (remainder (a * 4)), mul-le-mul_right x.den wide);
    }
    -- the rounded reduction is never above the unrounded one
    go (pos a) (negsuc n) h = let z : ⊥ = omega (arith, h.low) in absurd z
    -- rounded below 0, unrounded not: the one whole, the other discounted
    go (negsuc a) (pos n) h = record { low = omega arith; high = omega (arith, h.high) }
    go (negsuc a) (negsuc n) h = h

-- a greater reduction never credits less
pub fraction_credited_mono : (x y : Fraction) → x ≤ᶠ y → fraction_credited x ≤ᶠ fraction_credited y
unfolding fraction_credited ◌×ᶠ◌ ◌÷ᶠ◌by◌
fraction_credited_mono x y h = go x.num y.num h
  where
    go : (a b : ℤ) → over-den a x ≤ᶠ over-den b y → fraction_credited (over-den a x) ≤ᶠ fraction_credited (over-den b y)
    go (pos a) (pos b) h = parts_≤ᶠ (omega (arith, ≤ᶠ_parts h))
    go (pos a) (negsuc b) h = let z : ⊥ = omega (arith, ≤ᶠ_parts h, x.positive) in absurd z
    go (negsuc a) (pos b) h = parts_≤ᶠ (omega arith)
    go (negsuc a) (negsuc b) h = h
