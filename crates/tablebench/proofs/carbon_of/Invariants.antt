use Rattle.std.proofs.Common.{◌-◌, ◌≤◌}
use Rattle.tablebench.proofs.EntriesLaws.{SoFar}
use Rattle.tablebench.proofs.carbon_of.Given as goal

abbrev pub invariant-loop-k : goal.invariant-loop-k
invariant-loop-k l = record {
  within : l.left.0 ≤ l.weighing.total.0;
  read : SoFar l.conversions l.weighing.factors.now l.k (l.weighing.total.0 - l.left.0) l.carbon.0;
}
