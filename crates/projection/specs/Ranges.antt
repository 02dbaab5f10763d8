-- Ranges in which every sum and product of the projection fits 64 bits.
-- Serves contracts of inner functions and proofs; nothing here has to be believed. Assumes nothing.
use Rattle.std.specs.Prelude.{ℕ, ◌≡◌, ◌+◌, ◌≤◌, length}
use Rattle.classes.specs.Classes.{greatest_area}
use Rattle.projection.specs.declared.Region.{Region}
use Rattle.projection.specs.Projection.{area_total}

-- document 01: "Each total is at most 10^12"
abbrev pub SmallArea : ℕ → Type 0
SmallArea area = area ≤ greatest_area

-- with what rounding lost
abbrev pub SmallRegion : Region → Type 0
SmallRegion region = SmallArea (area_total region.areas + region.balance.0)

-- what is true of every Region of the code
pub record IsRegion (region : Region) : Type 0 where
  pub twelve : length region.areas ≡ 12
  pub small : SmallRegion region
