use native.Mathlib.Omega.{arith}
use Rattle.reckoner.proofs.Invariant.{handed-kept}
use Rattle.reckoner.proofs.Ledger.years.Goals as goal

pub returns-clause-few : goal.returns-clause-few
returns-clause-few c = omega (arith, (handed-kept c.self.invariant).count)
