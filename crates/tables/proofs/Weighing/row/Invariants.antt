use Rattle.std.proofs.Common.{◌+◌, ◌*◌, get_or}
use Rattle.tables.proofs.TableLaws.{RowSoFar}
use Rattle.tables.proofs.Weighing.row.Given as goal

abbrev pub invariant-loop-to : goal.invariant-loop-to
invariant-loop-to l = RowSoFar l.row (λ j. get_or l.self.factors.now (12 * l.from + j) 0) l.self.total.0 l.to l.sum.0 l.carbon.0
