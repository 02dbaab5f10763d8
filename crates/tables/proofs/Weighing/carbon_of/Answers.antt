use Rattle.std.proofs.Common.{rules, ℕ, ◌≡◌, ◌<◌, ◌≤◌, ap, arith}
use Rattle.units.specs.declared.CarbonUnits.{CarbonUnits}
use Rattle.tables.specs.declared.Row.{Row}
use Rattle.tables.proofs.TableLaws.{at_first, entry_over, row_over, one_row, total_of_all, carbon_of_all}
use Rattle.tables.proofs.Weighing.carbon_of.Goals as goal

pub loop-from-init : goal.loop-from-init
loop-from-init c = at_first c.args.conversions.now c.args.self.now.factors.now c.args.self.now.total.0

pub returns-in_err-sum-clause-value : goal.returns-in_err-sum-clause-value
returns-in_err-sum-clause-value c =
    rw c.from_residual.ensures (entry_over c.args.conversions.now c.as_chunks.result.0.now c.told-conversions c.as_chunks.ensures.front c.loop-from.from (omega arith) c.args.self.now.total.0 c.in_err-sum.ensures.value)

pub returns-then-lt-clause-value : goal.returns-then-lt-clause-value
returns-then-lt-clause-value c =
    let more : c.loop-from.left.0 < c.in_ok-sum.sum.area.0 = search rules in
    let area_is = ap (λ (row : Row). row.area.0) c.in_ok-sum.ensures.value.1 in
    row_over c.args.conversions.now c.as_chunks.result.0.now c.told-conversions c.as_chunks.ensures.front c.loop-from.from (omega arith) c.args.self.now.factors.now c.args.self.now.total.0 c.loop-from.left.0 c.loop-from.carbon.0 c.loop-from.invariant (omega (arith, more, area_is))

pub loop-from-preserved : goal.loop-from-preserved
loop-from-preserved c =
    let low : c.in_ok-sum.sum.area.0 ≤ c.loop-from.left.0 = search rules in
    let area_is = ap (λ (row : Row). row.area.0) c.in_ok-sum.ensures.value.1 in
    let carbon_is = ap (λ (row : Row). row.carbon.0) c.in_ok-sum.ensures.value.1 in
    rw (c.sub-left.ensures, c.add_assign.ensures.after)
    (one_row c.args.conversions.now c.as_chunks.result.0.now c.told-conversions c.as_chunks.ensures.front c.loop-from.from (omega arith) c.args.self.now.factors.now c.args.self.now.total.0 c.loop-from.left.0 c.loop-from.carbon.0 c.loop-from.invariant c.in_ok-sum.sum.area.0 c.in_ok-sum.sum.carbon.0 area_is carbon_is c.in_ok-sum.ensures.small low)

pub returns-then-ne-clause-value : goal.returns-then-ne-clause-value
returns-then-ne-clause-value c =
    let some : 0 < c.loop-from.left.0 = search rules in
    λ same. omega (arith, some, same, total_of_all c.args.conversions.now c.as_chunks.result.0.now c.told-conversions c.as_chunks.ensures.front c.args.self.now.factors.now c.args.self.now.total.0 c.loop-from.left.0 c.loop-from.carbon.0 c.loop-from.from (omega arith) c.loop-from.invariant)

pub returns-clause-value : goal.returns-clause-value
returns-clause-value c =
    let none : c.loop-from.left.0 ≡ 0 = search rules in
    let total_is = total_of_all c.args.conversions.now c.as_chunks.result.0.now c.told-conversions c.as_chunks.ensures.front c.args.self.now.factors.now c.args.self.now.total.0 c.loop-from.left.0 c.loop-from.carbon.0 c.loop-from.from (omega arith) c.loop-from.invariant in
    let carbon_is = carbon_of_all c.args.conversions.now c.as_chunks.result.0.now c.told-conversions c.as_chunks.ensures.front c.args.self.now.factors.now c.args.self.now.total.0 c.loop-from.left.0 c.loop-from.carbon.0 c.loop-from.from (omega arith) c.loop-from.invariant in
    (omega (arith, none, total_is), ap {B = CarbonUnits} (λ (n : ℕ). record { 0 = n }) carbon_is)
