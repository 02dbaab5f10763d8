use Rattle.std.proofs.Common.{◌≡◌, ℕ, List, length}
use Rattle.units.specs.declared.Grams.{Grams}
use Rattle.figures.specs.declared.Figures.{Figures}
use Rattle.periods.specs.Ranges.{Kept, Small}
use Rattle.periods.proofs.running_totals.Given as goal

-- after y years
pub record SoFar (figures : List Figures) (totals : List Grams) (y : ℕ) : Type 0 where
  pub places : length totals ≡ 21
  pub kept : Kept y figures totals
  pub small : Small y totals

abbrev pub invariant-loop-y : goal.invariant-loop-y
invariant-loop-y l = SoFar l.figures l.totals l.y
