-- What a clause sees of the values that an opening settles and that years change: their fields.
-- To be believed. Assumes nothing.
use Rattle.std.specs.Prelude.{ℕ, List}
use Rattle.units.specs.declared.AreaUnits.{AreaUnits}
use Rattle.units.specs.declared.CarbonUnits.{CarbonUnits}

-- the days of operation of a year and the days of its calendar year
pub record YearDaysValue : Type 0 where
  pub operating : ℕ
  pub calendar : ℕ

-- the carbon of a region in a year: by its projection, and by its monitored conversions
pub record YearCarbonValue : Type 0 where
  pub projected : CarbonUnits
  pub monitored : CarbonUnits

-- the option, the carbon stocks and the matrix in use, and the starting areas of project and belt
pub record TermsValue : Type 0 where
  pub option : ℕ
  pub stocks : List ℕ
  pub matrix : List ℕ
  pub start : AreaUnits
  pub beltstart : AreaUnits
