use Rattle.std.proofs.Common.{ℕ, ◌≤◌, ◌<◌, List, get_or}
use Rattle.classes.specs.Classes.{greatest_stock}
use Rattle.wire.specs.Bytes.{numbers}
use Rattle.opening.proofs.Reading.{Read}
use Rattle.opening.proofs.read_stocks.Given as goal

-- after i stocks
pub record SoFar (bytes stocks rest : List ℕ) (i : ℕ) : Type 0 where
  pub read : Read 12 2 bytes stocks i rest
  pub small : (k : ℕ) → k < i → get_or (numbers 12 2 bytes) k 0 ≤ greatest_stock

abbrev pub invariant-loop-stock : goal.invariant-loop-stock
invariant-loop-stock l = SoFar l.initial.reader l.stock-items l.reader l.stock-index
