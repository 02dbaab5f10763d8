use Rattle.std.proofs.Common.{◌≡◌, ◌+◌, ◌*◌, ◌≤◌, ◌++◌}
use Rattle.arrayvec.specs.ArrayString.{array_string_len}
use Rattle.sheet.specs.Sheet.{header, year_lines}
use Rattle.sheet.proofs.sheet_of.Given as goal

-- the header and the lines so far, and the room that they take at most
abbrev pub invariant-loop-i : goal.invariant-loop-i
invariant-loop-i l = record {
  bytes : l.text.bytes ≡ header ++ year_lines l.i l.first l.report 0;
  room : array_string_len l.text ≤ 81 + 189 * l.i;
}
