-- The ladder of ranges holds: each rung what those below it make, and two totals added or subtracted fit 64 bits.
-- Assumes nothing.
use Prim.Native.Nat.{◌+◌, ◌*◌, ◌^◌, ◌≤◌, ◌<◌}
use native.Mathlib.Omega.{arith}
use lib.Dec.{lit≤, lit<}
use lib.IntN.{ℤ, ◌+ℤ◌, ◌-ℤ◌}
use lib.Signed.{mag}
use mir.Syntax.{w64}
use mir.Val.{SFits}
use borrow.Author.Rules.{sfits_of}
use Rattle.arithmetic.proofs.IntegerLaws.{mag_plus, mag_minus}
use Rattle.classes.specs.Classes.{greatest_area, greatest_stock}
use Rattle.classes.specs.Ranges.{greatest_carbon, greatest_emissions, greatest_record, greatest_activity, greatest_figure, greatest_total}

-- ---- the rungs
-- a factor, at most a stock, keeps its 16 bits
pub factor_holds : greatest_stock < 2 ^ 16
factor_holds = lit< tt

pub carbon-holds : greatest_area * greatest_stock ≤ greatest_carbon
carbon-holds = lit≤ tt

-- carbon × 11 fits; × 11 × d does not, so the quotient by 300 × D and the remainder are weighed apart: the quotient × 11 × d is at most the
-- greatest emissions, and the remainder × 11 × d fits
pub elevenfold_fits : greatest_carbon * 11 < 2 ^ 64
elevenfold_fits = lit< tt

pub days_pass : 2 ^ 64 ≤ greatest_carbon * 11 * 365
days_pass = lit≤ tt

pub remainder_fits : 300 * 366 * (11 * 366) < 2 ^ 64
remainder_fits = lit< tt

pub emissions_hold : greatest_carbon * 11 ≤ greatest_emissions * 300
emissions_hold = lit≤ tt

pub activity-holds : 60 * greatest_record ≤ greatest_activity
activity-holds = lit≤ tt

-- reference, project, activity, and what is displaced, itself a difference of two
pub figure-holds : 4 * greatest_emissions + greatest_activity < greatest_figure
figure-holds = lit≤ tt

pub total-holds : 20 * greatest_figure ≤ greatest_total
total-holds = lit≤ tt

-- ---- within 64 bits. (`mag` is n both of n and of -(n + 1).)
pub fits : {z : ℤ} → mag z ≤ greatest_total → SFits w64 z
fits h = sfits_of (omega arith)

module _ (a b : ℤ) (ha : mag a ≤ greatest_total) (hb : mag b ≤ greatest_total) where
  pub plus_fits : SFits w64 (a +ℤ b)
  plus_fits = sfits_of (omega (arith, mag_plus a b))

  pub minus_fits : SFits w64 (a -ℤ b)
  minus_fits = sfits_of (omega (arith, mag_minus a b))
