-- Document 01, "Projection", for any list of twelve areas: the project area's and the belt's alike.
-- To be believed. Assumes nothing.
use Rattle.std.specs.Prelude.{ℕ, ◌+◌, ◌-◌, ◌*◌, ◌/◌, List, get_or}
use Rattle.arithmetic.specs.Sum.{sum, listed}
use Rattle.units.specs.declared.AreaUnits.{AreaUnits}
use Rattle.classes.specs.Classes.{classes}
use Rattle.classes.specs.Matrix.{entry, million}
use Rattle.projection.specs.declared.Region.{Region}

-- the area of class i
abbrev pub area : List AreaUnits → ℕ → ℕ
area areas i = (get_or areas i (record { 0 = 0 })).0

abbrev pub area_total : List AreaUnits → ℕ
area_total areas = sum classes (area areas)

-- flow i to j (document 001: projected area of land converted) = area i × probability ÷ 1,000,000, rounded down
abbrev pub flow : (areas : List AreaUnits) (matrix : List ℕ) (i j : ℕ) → ℕ
flow areas matrix i j = area areas i * entry matrix i j / million

-- projected carbon of the year = sum of flow × factor
unfoldable pub projected_carbon : (ℕ → ℕ → ℕ) → List AreaUnits → List ℕ → ℕ
projected_carbon factor areas matrix = sum classes (λ i. sum classes (λ j. flow areas matrix i j * factor i j))

-- the next year's area j = sum of flows into j
unfoldable pub next_area : List AreaUnits → List ℕ → ℕ → ℕ
next_area areas matrix j = sum classes (λ i. flow areas matrix i j)

unfoldable pub next_areas : List AreaUnits → List ℕ → List AreaUnits
next_areas areas matrix = listed classes (λ j. record { 0 = next_area areas matrix j })

-- the area that rounding lost: over all classes, the sum of each area less its twelve flows
unfoldable pub lost_area : List AreaUnits → List ℕ → ℕ
lost_area areas matrix = sum classes (λ i. area areas i - sum classes (λ j. flow areas matrix i j))

-- a region, project area or belt, is its twelve projected areas and its balance. Year 1 starts from the areas at inception, and the balance at 0
unfoldable pub opened_region : List AreaUnits → Region
opened_region areas = record { areas = areas; balance = record { 0 = 0 } }

-- after a year: the areas that the next year would start from, and the balance grown by the area that rounding lost
unfoldable pub projected_region : List ℕ → Region → Region
projected_region matrix region = record { areas = next_areas region.areas matrix; balance = record { 0 = region.balance.0 + lost_area region.areas matrix } }
