use Rattle.std.proofs.Common.{rules, ℕ, ◌≤◌, ◌+◌, ◌*◌, get_or, arith}
use Rattle.tables.proofs.TableLaws.{none, one_more}
use Rattle.tables.proofs.Weighing.row.Goals as goal

pub loop-to-init : goal.loop-to-init
loop-to-init c = none c.args.row.now (λ j. get_or c.args.self.now.factors.now (12 * c.args.from + j) 0) c.args.self.now.total.0

pub loop-to-preserved : goal.loop-to-preserved
loop-to-preserved c =
    let factor : ℕ → ℕ = λ j. get_or c.args.self.now.factors.now (12 * c.args.from + j) 0 in
    let small = rw c.factors.view_is at c.factors.invariant.small (12 * c.args.from + c.loop-to.to) in
    let weight = rw (c.factors.view_is, c.place.ensures) at c.mul.ensures in
    let low : c.area_of-area.result.0 ≤ c.args.self.now.total.0 = search rules in
    rw (c.add_assign.ensures.after, c.add_assign-in-loop-to.ensures.after)
    (one_more c.args.row.now factor c.args.self.now.total.0 c.loop-to.to c.loop-to.sum.0 c.loop-to.carbon.0 c.area_of-area.result.0 c.mul.result.0 c.loop-to.invariant (omega arith) c.area_of-area.ensures low c.args.self.now.small weight small)
