use Rattle.std.proofs.Common.{◌≡◌, ◌+◌, ◌*◌, ◌≤◌, ◌++◌}
use Rattle.arrayvec.specs.ArrayString.{array_string_len}
use Rattle.sheet.specs.Sheet.{spaced}
use Rattle.sheet.proofs.push_figures.Given as goal

abbrev pub invariant-loop-i : goal.invariant-loop-i
invariant-loop-i l = record {
  bytes : l.text.bytes ≡ l.initial.text.bytes ++ spaced l.i l.report l.from;
  room : array_string_len l.text ≤ array_string_len l.initial.text + 21 * l.i;
}
