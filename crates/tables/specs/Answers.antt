-- A table as the reckoning takes it: by the carbon of its conversions.
-- Serves contracts of inner functions; to be believed only with the claim that the two readers of tables are one (`Readers`), which speaks of that contract.
-- Assumes nothing.
use Rattle.std.specs.Prelude.{ℕ}
use Rattle.units.specs.declared.CarbonUnits.{CarbonUnits}
use Rattle.figures.specs.Figures.{monitored_carbon}
use Rattle.dossier.specs.Reader.{Reader, ◌>>=◌, give}
use Rattle.dossier.specs.JudgingRecords.{conversions}

-- CP, CD: the carbon of the conversions by a table of factors
unfoldable pub monitored_table : (ℕ → ℕ → ℕ) → ℕ → ℕ → Reader CarbonUnits
monitored_table factor m settled_total = do
  xs ← conversions m settled_total
  give (record { 0 = monitored_carbon factor xs })
