-- By the built-in stocks, the bound of #102 is no wider than that of #101.
-- Assumes nothing.
use Rattle.std.proofs.Common.{ℕ, ◌+◌, ◌*◌, ◌<◌, arith, ℤ, pos}
use Rattle.arithmetic.specs.Fraction.{Fraction, ◌<ᶠ◌, whole, ◌-ᶠ◌}
use Rattle.arithmetic.proofs.FractionLaws.{times_below}
use Rattle.classes.specs.Classes.{carbon_stocks, greatest_in}
use Rattle.assurance.specs.Assurance.{TotalAssured}

-- 4.84 × 13,511 is 65,393.24
pub built_in_gap : (n m : ℕ) (total : ℤ) (unrounded : Fraction) → TotalAssured (greatest_in carbon_stocks) n m total unrounded → 0 < n
    → unrounded -ᶠ whole total <ᶠ whole (pos (65_394 * (n * (n + 1)) + 5 * n + m))
unfolding greatest_in carbon_stocks
built_in_gap n m total unrounded h n_pos = times_below _ _ 25 (h.gap n_pos) (omega arith)
