use Rattle.std.proofs.Common.{◌+◌, sym, arith, rules}
use Rattle.std.proofs.lemmas.Grind.{common_steps}
use Rattle.activities.proofs.RunLaws.{ended, other, full, third, faulty, sum_fits, one_more_lem}
use Rattle.activities.proofs.read_records.Goals as goal

pub returns-then-is_activity : goal.returns-then-is_activity
returns-then-is_activity c = full c.records.invariant c.in-Some.ensures (omega arith) (sym c.if-is_activity.ensures) _

pub returns-then-residues-gt-GREATEST_RESIDUES : goal.returns-then-residues-gt-GREATEST_RESIDUES
returns-then-residues-gt-GREATEST_RESIDUES c = third c.records.invariant c.in-Some.ensures (c.records.residues + c.from-residues.result) (omega arith) (omega arith) _

pub returns-in_err-activity : goal.returns-in_err-activity
returns-in_err-activity c =
    faulty c.records.invariant c.in-Some.ensures (c.records.residues + c.from-residues.result) (omega arith) (omega arith) (grind (arith, common_steps)) _ (rw c.in_err-activity.was at c.in-Some-read_activity.ensures) c.from_residual.result (search rules) _

pub add_assign-requires : goal.add_assign-requires
add_assign-requires c =
    sum_fits c.records.invariant c.in-Some.ensures (c.records.residues + c.from-residues.result) (omega arith) (omega arith) (grind (arith, common_steps)) _ _ (rw c.in_ok-activity.was at c.in-Some-read_activity.ensures) _ c.emissions.ensures

pub records-preserved : goal.records-preserved
records-preserved c =
    one_more_lem c.records.invariant c.in-Some.ensures (c.records.residues + c.from-residues.result) (omega arith) (omega arith) (grind (arith, common_steps)) _ _ (rw c.in_ok-activity.was at c.in-Some-read_activity.ensures) _ c.emissions.ensures
    _ (cc) c.add_assign.new.self c.add_assign.ensures.after

pub returns-else-is_activity : goal.returns-else-is_activity
returns-else-is_activity c = other c.records.invariant c.in-Some.ensures (sym c.if-is_activity.ensures)

pub returns-in_default-read_activity : goal.returns-in_default-read_activity
returns-in_default-read_activity c = other c.records.invariant c.in-Some.ensures c.in_default-read_activity.ensures

pub returns-in_default : goal.returns-in_default
returns-in_default c = ended c.records.invariant c.in_default.ensures
