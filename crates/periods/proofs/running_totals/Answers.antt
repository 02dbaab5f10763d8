use Rattle.std.proofs.Common.{arith, rules}
use Rattle.periods.proofs.RunningLaws.{kept_next, small_next}
use Rattle.periods.proofs.running_totals.Goals as goal

pub loop-y-preserved : goal.loop-y-preserved
loop-y-preserved c =
    let done = c.loop-y.invariant in
    record {
      places = search rules;
      kept = kept_next _ _ (omega (arith, done.places)) _ _ done.kept c.add.ensures;
      small = small_next _ _ (omega (arith, done.places)) _ _ done.small (c.requires.credits c.loop-y.y c.loop-y-test.true) c.add.ensures;
    }
