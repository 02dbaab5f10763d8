-- Signed numbers of 64 bits below 0 and from 0 on, as the code reads them back. (`mag` is n both of n and of -(n + 1).)
-- Assumes nothing.
use mathlib.Core.Path.{◌≡◌, refl, ◌∙◌}
use mathlib.Core.Bool.{true, false}
use Prim.Native.Nat.{ℕ}
use native.Mathlib.Omega.{arith}
use lib.IntN.{ℤ, pos, negsuc, neg_ℤ, ◌-ℤ◌}
use lib.Signed.{mag, lt_z}
use mir.Syntax.{w64}
use mir.Val.{SFits, to_z, of_z}
use mir.Facts.{to_z-of_z}
use borrow.Author.Rules.{sfits_of}
use borrow.Author.Tests.{ltb-true}
use Rattle.arithmetic.proofs.IntegerLaws.{add_parts, neg-above, neg-below, same_parts}

-- -1 - z turns -(n + 1) into n
flipped : (n : ℕ) → negsuc 0 -ℤ negsuc n ≡ pos n
flipped n = same_parts (negsuc 0 -ℤ negsuc n) (pos n) (omega (arith, add_parts (negsuc 0) (neg_ℤ (negsuc n)), neg-above (negsuc n), neg-below (negsuc n)))

negative : (z : ℤ) → lt_z z (pos 0) ≡ true → z ≡ negsuc (mag z)
negative (pos n) t = let z : ⊥ = omega (arith, ltb-true n 0 t) in absurd z
negative (negsuc n) t = refl

other : (z : ℤ) → lt_z z (pos 0) ≡ false → z ≡ pos (mag z)
other (pos n) t = refl
other (negsuc n) t = let z : ◌≡◌ {A = ℕ} 0 1 = cc in let w : ⊥ = omega arith in absurd w

module _ {z : ℤ} (fits : SFits w64 z) where
  pub from_zero : lt_z (to_z w64 (of_z w64 z)) (pos 0) ≡ false → z ≡ pos (mag z)
  from_zero t = other z (rw (to_z-of_z fits) at t)

  module _ (t : lt_z (to_z w64 (of_z w64 z)) (pos 0) ≡ true) where
    pub below-zero : z ≡ negsuc (mag z)
    below-zero = negative z (rw (to_z-of_z fits) at t)

    flip_below : negsuc 0 -ℤ to_z w64 (of_z w64 z) ≡ pos (mag z)
    flip_below = rw (to_z-of_z fits, below-zero) (flipped (mag z))

    pub flip_below_fits : SFits w64 (negsuc 0 -ℤ to_z w64 (of_z w64 z))
    flip_below_fits = rw flip_below (sfits_of fits.sfits)

    pub flip_below_read : to_z w64 (of_z w64 (negsuc 0 -ℤ to_z w64 (of_z w64 z))) ≡ pos (mag z)
    flip_below_read = to_z-of_z {w = w64} flip_below_fits ∙ flip_below
