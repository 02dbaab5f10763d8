-- A region from its opening on: its areas and its balance make up the area it started from.
-- Assumes nothing.
use Rattle.std.proofs.Common.{◌≡◌, ℕ, ◌+◌, List, length, get_or, replicate, refl, ◌∙◌, ap, sym, arith}
use Rattle.std.proofs.Math.ListN.{length-map, get_or-map}
use Rattle.arithmetic.specs.Sum.{sum}
use Rattle.arithmetic.proofs.SumLaws.{sum_cong, length-listed}
use Rattle.classes.specs.Classes.{classes}
use Rattle.units.specs.declared.AreaUnits.{AreaUnits}
use Rattle.projection.specs.declared.Region.{Region}
use Rattle.projection.specs.Projection.{area, area_total, next_areas, opened_region, projected_region}
use Rattle.classes.specs.Ranges.{RowsWithin}
use Rattle.projection.specs.Ranges.{SmallArea}
use Rattle.projection.proofs.ProjectionLaws.{areas-kept}
use Rattle.wire.specs.Bytes.{total}
use Rattle.wire.proofs.NumbersLaws.{total-entries}
use Rattle.dossier.specs.Records.{units}

-- a region that started from an area, with a place for each class
pub record RegionKept (start : ℕ) (region : Region) : Type 0 where
  pub whole : area_total region.areas + region.balance.0 ≡ start
  pub small : SmallArea start
  pub twelve : length region.areas ≡ 12

-- all areas 0
pub zero_region : RegionKept 0 (opened_region (units (replicate 12 0)))
unfolding sum opened_region
zero_region = record { whole = refl; small = omega arith; twelve = refl }

units-area : (xs : List ℕ) (i : ℕ) → area (units xs) i ≡ get_or xs i 0
units-area xs i = ap (λ (unit : AreaUnits). unit.0) (get_or-map (λ (n : ℕ). record { 0 = n }) xs i 0)

-- the areas that PA or DA says make up its total
pub units-total : (xs : List ℕ) → length xs ≡ 12 → area_total (units xs) ≡ total xs
units-total xs e = sum_cong classes (area (units xs)) (λ i. get_or xs i 0) (λ i h. units-area xs i) ∙ sym (rw e at (total-entries xs))

pub opened_region_lem : (xs : List ℕ) → length xs ≡ 12 → SmallArea (total xs) → RegionKept (total xs) (opened_region (units xs))
unfolding opened_region
opened_region_lem xs e h = record { whole = omega (arith, units-total xs e); small = h; twelve = length-map xs (λ (n : ℕ). record { 0 = n }) ∙ e }

-- after a year
pub projected-kept : (matrix : List ℕ) → RowsWithin matrix → (start : ℕ) (region : Region) → RegionKept start region → RegionKept start (projected_region matrix region)
unfolding projected_region next_areas
projected-kept matrix rows start region r = record { whole = omega (arith, areas-kept region.areas matrix rows, r.whole); small = r.small; twelve = length-listed classes _ }
