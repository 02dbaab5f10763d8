-- Areas as numbers of area units.
-- Serves contracts of inner functions and proofs; nothing here has to be believed. Assumes nothing.
use Rattle.std.specs.Prelude.{ℕ, List, map}
use Rattle.units.specs.declared.AreaUnits.{AreaUnits}

abbrev pub amounts : List AreaUnits → List ℕ
amounts areas = map (λ (area : AreaUnits). area.0) areas
