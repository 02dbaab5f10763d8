use Rattle.std.proofs.Common.{ℕ, ◌≤◌, ◌<◌, ◌+◌, ◌*◌, ◌≡◌, List}
use Rattle.arithmetic.specs.Sum.{sum}
use Rattle.classes.specs.Classes.{classes}
use Rattle.classes.specs.Matrix.{entry, million}
use Rattle.wire.specs.Bytes.{numbers}
use Rattle.dossier.specs.Marks.{mark_mp}
use Rattle.dossier.specs.Reader.{accepted, begin}
use Rattle.opening.proofs.Reading.{Read}
use Rattle.opening.proofs.read_matrix.Given as goal

-- after so many rows, and so many columns of the next, which sum to this
pub record SoFar (old entries rest : List ℕ) (row column filed : ℕ) : Type 0 where
  pub bytes : List ℕ
  pub begun : accepted tt bytes ≡ begin mark_mp 576 old
  pub read : Read 144 4 bytes entries (12 * row + column) rest
  pub whole : (k : ℕ) → k < row → sum classes (entry (numbers 144 4 bytes) k) ≡ million
  pub summed : filed ≡ sum column (entry (numbers 144 4 bytes) row)
  pub most : filed ≤ column * 4294967295

abbrev pub invariant-loop-row : goal.invariant-loop-row
invariant-loop-row l = SoFar l.fn.reader l.entries l.reader l.row 0 0

abbrev pub invariant-loop-column : goal.invariant-loop-column
invariant-loop-column l = SoFar l.fn.reader l.entries l.reader l.row l.column l.sum
