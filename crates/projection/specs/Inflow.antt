-- A year's projection as the code takes it: column by column, and carbon and region together.
-- Serves contracts of inner functions and proofs; nothing here has to be believed. Assumes nothing.
use Rattle.std.specs.Prelude.{ℕ, ◌*◌, List}
use Rattle.arithmetic.specs.Sum.{sum}
use Rattle.units.specs.declared.AreaUnits.{AreaUnits}
use Rattle.classes.specs.Classes.{classes}
use Rattle.projection.specs.declared.Region.{Region}
use Rattle.projection.specs.declared.Projected.{Projected}
use Rattle.projection.specs.Projection.{flow, projected_carbon, projected_region}

-- the carbon of the flows into j
unfoldable pub inflow_carbon : (ℕ → ℕ → ℕ) → List AreaUnits → List ℕ → ℕ → ℕ
inflow_carbon factor areas matrix j = sum classes (λ i. flow areas matrix i j * factor i j)

-- the year of a region: what it is afterwards, and its projected carbon
unfoldable pub projected_year : (ℕ → ℕ → ℕ) → List ℕ → Region → Projected
projected_year factor matrix region = record { region = projected_region matrix region; carbon = record { 0 = projected_carbon factor region.areas matrix } }
