-- The number of each kind in a record, and the kind that a number names.
-- Serves contracts of inner functions and proofs: no contract of a public call names it, so nothing here has to be believed. Assumes nothing.
use Rattle.std.specs.Prelude.{ℕ, ◌≤◌, ◌<◌, ◌≡◌, Result, Ok, Err}
use Rattle.refusals.specs.declared.Refusal.{Refusal}
use Rattle.refusals.specs.declared.Refusal.TheVariants.{ActivityOutOfRange}
use Rattle.activity.specs.Activity.{Within}
use Rattle.activity.specs.declared.kinds.FuelKind.{FuelKind}
use Rattle.activity.specs.declared.kinds.NitrogenSource.{NitrogenSource}
use Rattle.activity.specs.declared.kinds.Crop.{Crop}
use Rattle.activity.specs.declared.kinds.LimeMaterial.{LimeMaterial}

abbrev pub fuel_kind_number : FuelKind → ℕ
fuel_kind_number FuelKind.Diesel = 1
fuel_kind_number FuelKind.Gasoline = 2
fuel_kind_number FuelKind.Crude = 3

abbrev pub nitrogen_source_number : NitrogenSource → ℕ
nitrogen_source_number NitrogenSource.Synthetic = 1
nitrogen_source_number NitrogenSource.Organic = 2
nitrogen_source_number NitrogenSource.Residue = 3

abbrev pub crop_number : Crop → ℕ
crop_number Crop.Other = 1
crop_number Crop.FloodedRice = 2

abbrev pub lime_material_number : LimeMaterial → ℕ
lime_material_number LimeMaterial.Limestone = 1
lime_material_number LimeMaterial.Dolomite = 2
lime_material_number LimeMaterial.Urea = 3

-- the kind whose number n is; a field out of range where n is not from 1 to the greatest
abbrev pub IsKindOf : {K : Type 0} → (number_of : K → ℕ) → (greatest n : ℕ) → Result K Refusal → Type 0
IsKindOf number_of greatest n (Ok kind) = (number_of kind ≡ n) × Within 1 n greatest
IsKindOf number_of greatest n (Err refusal) = (refusal ≡ ActivityOutOfRange) × (1 ≤ n → greatest < n)
