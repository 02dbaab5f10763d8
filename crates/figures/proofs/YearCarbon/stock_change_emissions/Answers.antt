use Rattle.std.proofs.Common.{arith}
use Rattle.std.proofs.lemmas.Int.{ints}
use Rattle.figures.specs.Figures.{stock_change_emissions}
use Rattle.figures.proofs.FiguresLaws.{emissions-small}
use Rattle.figures.proofs.YearCarbon.stock_change_emissions.Goals as goal

pub overflow_cast-result : goal.overflow_cast-result
unfolding stock_change_emissions
overflow_cast-result c = omega (arith, emissions-small c.self.invariant.1)

pub returns-clause-value : goal.returns-clause-value
unfolding stock_change_emissions
returns-clause-value c = rw (← c.self.view_is) (omega (arith, ints, emissions-small c.self.invariant.1))

pub returns-clause-small : goal.returns-clause-small
unfolding stock_change_emissions
returns-clause-small c = omega (arith, ints, emissions-small c.self.invariant.1)
