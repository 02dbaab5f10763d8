-- An activity record by the numbers of its fields, each kind by its number in the record (docs/DOSSIER.md).
-- To be believed. Assumes nothing.
use Rattle.std.specs.Prelude.{ℕ}

-- residues above or below the ground: their ratio to the yield, in hundredths, and their nitrogen content, in ten-thousandths
pub record Part : Type 0 where
  pub ratio : ℕ
  pub content : ℕ

-- a nitrogen-fixing crop, by the fields of CR: the area in ha, the yield (harvest) in kg of dry matter per ha, the renewed share in ten-thousandths
pub record FixingCrop : Type 0 where
  pub crop : ℕ
  pub area : ℕ
  pub harvest : ℕ
  pub renewed : ℕ
  pub above : Part
  pub below : Part

-- FU, VE, NI, LI or CR
pub data Activity : Type 0 where
  Fuel : (kind grams : ℕ) → Activity
  Vehicles : (kind count average rate : ℕ) → Activity
  Nitrogen : (source crop grams content : ℕ) → Activity
  Lime : (material grams : ℕ) → Activity
  Residue : FixingCrop → Activity
