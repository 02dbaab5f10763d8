-- Totals of lists of areas and of carbon, as numbers.
-- Serves contracts and proofs; nothing here has to be believed. Assumes nothing.
use Rattle.std.specs.Prelude.{ℕ, List, sum_by}
use Rattle.units.specs.declared.AreaUnits.{AreaUnits}
use Rattle.units.specs.declared.CarbonUnits.{CarbonUnits}

abbrev pub total_area : List AreaUnits → ℕ
total_area areas = sum_by (λ a. a.0) areas

abbrev pub total_carbon : List CarbonUnits → ℕ
total_carbon parts = sum_by (λ c. c.0) parts
