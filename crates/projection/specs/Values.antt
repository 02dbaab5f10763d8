-- What a clause sees of a region: its fields.
-- To be believed. Assumes nothing.
use Rattle.std.specs.Prelude.{List}
use Rattle.units.specs.declared.AreaUnits.{AreaUnits}

-- the twelve areas by class, and the balance: the area that rounding lost so far
pub record RegionValue : Type 0 where
  pub areas : List AreaUnits
  pub balance : AreaUnits
