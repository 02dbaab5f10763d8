-- A ledger that the calls handed back has no more years than the year that is due.
use native.Mathlib.Omega.{arith}
use Rattle.reckoner.proofs.Invariant.{handed-kept}
use Rattle.reckoner.proofs.Ledger.first_year.Goals as goal

pub overflow_sub-result : goal.overflow_sub-result
overflow_sub-result c = omega (arith, (handed-kept c.self.invariant).since)

pub returns-clause-small : goal.returns-clause-small
returns-clause-small c = omega (arith, (handed-kept c.self.invariant).years)
