use Rattle.std.proofs.Common.{rules, ◌≡◌, ◌+◌, ◌-◌, ◌*◌, ◌<◌, ◌≤◌, get_or, refl, arith}
use Rattle.tablebench.proofs.EntriesLaws.{one_more, part_le}
use Rattle.tablebench.proofs.carbon_of.Goals as goal

pub returns-then-lt-clause-value : goal.returns-then-lt-clause-value
returns-then-lt-clause-value c = λ same.
    let less : c.loop-k.left.0 < c.area_of-area.result.0 = search rules in
    omega (arith, same, less, part_le c.args.conversions.now c.args.weighing.now.factors.now c.told-conversions c.loop-k.k _ _ _ c.loop-k.invariant.read (omega arith) c.area_of-area.ensures)

pub loop-k-preserved : goal.loop-k-preserved
loop-k-preserved c =
    let small = rw c.factors.view_is at c.factors.invariant.small c.loop-k.k in
    let weight : c.mul.result.0 ≡ c.area_of-area.result.0 * get_or c.args.weighing.now.factors.now c.loop-k.k 0 = rw c.factors.view_is at c.mul.ensures in
    let carbon : c.add_assign.new.self.0 ≡ c.loop-k.carbon.0 + c.area_of-area.result.0 * get_or c.args.weighing.now.factors.now c.loop-k.k 0 = omega (arith, c.add_assign.ensures.after, weight) in
    let enough : c.area_of-area.result.0 ≤ c.loop-k.left.0 = search rules in
    let left : c.args.weighing.now.total.0 - c.sub-left.result.0 ≡ c.args.weighing.now.total.0 - c.loop-k.left.0 + c.area_of-area.result.0 = omega (arith, c.sub-left.ensures, enough, c.loop-k.invariant.within) in
    record {
      within = omega (arith, c.sub-left.ensures);
      read = rw (left, carbon) (one_more c.args.conversions.now c.args.weighing.now.factors.now c.loop-k.k _ _ _ _ c.loop-k.invariant.read (omega arith) c.area_of-area.ensures (omega arith) refl small);
    }
