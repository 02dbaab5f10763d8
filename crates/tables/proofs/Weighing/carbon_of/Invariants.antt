use Rattle.std.proofs.Common.{◌*◌}
use Rattle.tables.proofs.TableLaws.{SoFar}
use Rattle.tables.proofs.Weighing.carbon_of.Given as goal

abbrev pub invariant-loop-from : goal.invariant-loop-from
invariant-loop-from l = SoFar l.conversions l.self.factors.now l.self.total.0 (12 * l.from) l.left.0 l.carbon.0
