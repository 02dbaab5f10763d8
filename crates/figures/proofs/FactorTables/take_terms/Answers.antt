use Rattle.classes.proofs.FactorLaws.{emission_are_factors}
use Rattle.figures.proofs.CountedLaws.{counted_are_factors}
use Rattle.figures.proofs.FactorTables.take_terms.Goals as goal

pub invariant_of-projected : goal.invariant_of-projected
invariant_of-projected c = rw c.fill_factors.ensures.factors (emission_are_factors _ c.stocks.invariant)

pub invariant_of-monitored : goal.invariant_of-monitored
invariant_of-monitored c = rw c.fill_factors.ensures.counted (counted_are_factors _ _ c.stocks.invariant)
