use Rattle.std.proofs.Common.{ℕ, List, length, take, ◌*◌, ◌≡◌, ◌≤◌, ◌∙◌, ap, sym, refl, add-one, arith}
use Rattle.std.proofs.Math.ListN.{length-set}
use lib.Seq.{take-suc-set, take_all}
use Rattle.arithmetic.specs.Sum.{listed}
use Rattle.arithmetic.proofs.SumLaws.{sum-none, sum-next}
use Rattle.units.specs.declared.AreaUnits.{AreaUnits}
use Rattle.classes.specs.Classes.{greatest_stock}
use Rattle.classes.specs.Matrix.{entry}
use Rattle.projection.specs.Projection.{flow, next_area, next_areas}
use Rattle.projection.specs.Inflow.{inflow_carbon}
use Rattle.projection.proofs.ProjectionLaws.{fitting_le, areas-kept, inflow_next, inflow_carbon-next, columns_le, carbon_columns}
use Rattle.projection.proofs.Region.flows.Goals as goal

pub loop-class-init : goal.loop-class-init
unfolding listed
loop-class-init c = record { twelve = refl; stored = refl; carbon = sym (sum-none _) }

pub add_assign-requires : goal.add_assign-requires
add_assign-requires c =
    let area = rw (← c.self.view_is, ← c.matrix.view_is) at c.loop-from.invariant.area in
    let flowing = rw c.place-pair.ensures at c.flow-flowing.ensures in
    let most = inflow_next c.self.inside.areas c.matrix.inside.entries c.matrix.invariant.rows c.loop-from.from c.loop-class.class c.loop-from-test.true c.loop-class-test.true in
    omega (arith, area, flowing, most, c.self.invariant.small)

pub add_assign-requires-in-loop-from : goal.add_assign-requires-in-loop-from
add_assign-requires-in-loop-from c =
    let areas = c.self.inside.areas in
    let matrix = c.matrix.inside.entries in
    let factor = entry c.factors.inside.entries in
    let fit = fitting_le c.factors.inside.entries c.factors.invariant.small in
    let carbon = rw (← c.self.view_is, ← c.matrix.view_is, ← c.factors.view_is) at c.loop-from.invariant.carbon in
    let freed : c.mul.result.0 ≡ flow areas matrix c.loop-from.from c.loop-class.class * factor c.loop-from.from c.loop-class.class = rw (c.flow-flowing.ensures, c.place-pair.ensures) at c.mul.ensures in
    let before = columns_le areas matrix c.matrix.invariant.rows factor greatest_stock fit c.loop-class.class (omega arith) in
    let here = inflow_carbon-next areas matrix c.matrix.invariant.rows factor greatest_stock fit c.loop-from.from c.loop-class.class c.loop-from-test.true c.loop-class-test.true in
    omega (arith, carbon, freed, before, here, c.self.invariant.small)

pub loop-class-preserved : goal.loop-class-preserved
unfolding listed inflow_carbon next_area
loop-class-preserved c =
    let l = c.loop-class in
    let whole : c.loop-from.from ≡ 12 = omega arith in
    let e : c.loop-from.area ≡ record { 0 = next_area c.args.self.now.areas c.args.matrix.now l.class } = ap {B = AreaUnits} (λ (n : ℕ). record { 0 = n }) (rw whole at c.loop-from.invariant.area) in
    record {
      twelve = length-set l.areas _ _ ∙ l.invariant.twelve;
      stored = rw (add-one, take-suc-set l.areas l.class c.loop-from.area (omega arith), l.invariant.stored, e);
      carbon = rw whole at c.loop-from.invariant.carbon ∙ sym (sum-next l.class (inflow_carbon (entry c.args.factors.now) c.args.self.now.areas c.args.matrix.now));
    }

-- the areas after the twelve columns
all_columns : (areas : List AreaUnits) (matrix : List ℕ) {next : List AreaUnits} {n : ℕ} → length next ≡ 12 → 12 ≤ n → n ≤ 12 → take n next ≡ listed n (λ j. record { 0 = next_area areas matrix j }) → next ≡ next_areas areas matrix
unfolding next_areas
all_columns areas matrix {n = n} twelve least most stored = let e : n ≡ 12 = omega arith in sym (take_all 12 _ (omega arith)) ∙ rw e at stored

pub returns-clause-areas : goal.returns-clause-areas
returns-clause-areas c = all_columns c.args.self.now.areas c.args.matrix.now c.loop-class.invariant.twelve c.loop-class-test.false c.loop-class.auto.class-end c.loop-class.invariant.stored

pub returns-clause-carbon : goal.returns-clause-carbon
returns-clause-carbon c = let e : c.loop-class.class ≡ 12 = omega arith in rw e at c.loop-class.invariant.carbon ∙ carbon_columns (entry c.args.factors.now) c.args.self.now.areas c.args.matrix.now

pub returns-clause-small : goal.returns-clause-small
returns-clause-small c =
    let carbon = rw (← c.self.view_is, ← c.matrix.view_is, ← c.factors.view_is) at c.loop-class.invariant.carbon in
    let most = columns_le c.self.inside.areas c.matrix.inside.entries c.matrix.invariant.rows (entry c.factors.inside.entries) greatest_stock (fitting_le c.factors.inside.entries c.factors.invariant.small) c.loop-class.class (omega arith) in
    omega (arith, carbon, most, c.self.invariant.small)

pub returns-clause-kept : goal.returns-clause-kept
returns-clause-kept c =
    let areas = all_columns c.args.self.now.areas c.args.matrix.now c.loop-class.invariant.twelve c.loop-class-test.false c.loop-class.auto.class-end c.loop-class.invariant.stored in
    rw (areas) (areas-kept c.args.self.now.areas c.args.matrix.now (rw c.matrix.view_is at c.matrix.invariant.rows))
