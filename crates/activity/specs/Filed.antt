-- A record of the code as it is filed: each kind by its number.
-- Serves contracts of inner functions and proofs: no contract of a public call names it, so nothing here has to be believed. Assumes nothing.
use Rattle.activity.specs.declared.records.Activity.{Activity as Typed}
use Rattle.activity.specs.declared.records.FixingCrop.{FixingCrop as TypedCrop}
use Rattle.activity.specs.declared.records.Part.{Part as TypedPart}
use Rattle.activity.specs.Records.{Activity, FixingCrop, Part}
use Rattle.activity.specs.Kinds.{fuel_kind_number, nitrogen_source_number, crop_number, lime_material_number}

abbrev pub part_as_filed : TypedPart → Part
part_as_filed p = record { ratio = p.ratio; content = p.content }

abbrev pub crop_as_filed : TypedCrop → FixingCrop
crop_as_filed r = record {
  crop = crop_number r.crop;
  area = r.area;
  harvest = r.harvest;
  renewed = r.renewed;
  above = part_as_filed r.above;
  below = part_as_filed r.below;
}

abbrev pub as_filed : Typed → Activity
as_filed (Typed.Fuel f) = Activity.Fuel (fuel_kind_number f.kind) f.grams
as_filed (Typed.Vehicles v) = Activity.Vehicles (fuel_kind_number v.kind) v.count v.average v.rate
as_filed (Typed.Nitrogen n) = Activity.Nitrogen (nitrogen_source_number n.source) (crop_number n.crop) n.grams n.content
as_filed (Typed.Lime l) = Activity.Lime (lime_material_number l.material) l.grams
as_filed (Typed.Residue r) = Activity.Residue (crop_as_filed r)
