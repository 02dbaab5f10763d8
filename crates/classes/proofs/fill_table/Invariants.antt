use Rattle.std.proofs.Common.{◌+◌, ◌*◌}
use Rattle.classes.proofs.TableLaws.{FilledBelow}
use Rattle.classes.proofs.fill_table.Given as goal

abbrev pub invariant-loop-to : goal.invariant-loop-to
invariant-loop-to g l = FilledBelow (goal.F-post g l.entry) l.table (12 * l.from + l.to)

abbrev pub invariant-loop-from : goal.invariant-loop-from
invariant-loop-from g l = FilledBelow (goal.F-post g l.entry) l.table (12 * l.from)
