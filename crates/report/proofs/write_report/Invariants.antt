use Rattle.std.proofs.Common.{◌≡◌, take}
use Rattle.wire.specs.Signed.{written}
use Rattle.report.specs.Report.{eights}
use Rattle.report.proofs.write_report.Given as goal

abbrev pub invariant-loop-y : goal.invariant-loop-y
invariant-loop-y l = l.buffer ≡ written (eights (take l.y l.figures)) l.initial.buffer
