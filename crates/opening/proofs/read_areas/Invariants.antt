use Rattle.std.proofs.Common.{ℕ, ◌≤◌, ◌≡◌, List}
use Rattle.classes.specs.Classes.{greatest_area}
use Rattle.wire.specs.Bytes.{numbers, total}
use Rattle.opening.specs.Amounts.{amounts}
use Rattle.opening.proofs.Reading.{Read}
use Rattle.opening.proofs.read_areas.Given as goal

-- after i areas
pub record SoFar (bytes areas rest : List ℕ) (sum i : ℕ) : Type 0 where
  pub read : Read 12 8 bytes areas i rest
  pub summed : sum ≡ total (numbers i 8 bytes)
  pub most : sum ≤ greatest_area

abbrev pub invariant-loop-area : goal.invariant-loop-area
invariant-loop-area l = SoFar l.initial.reader (amounts l.area-items) l.reader l.total.0 l.area-index
