-- Document 01, "Projection" and "A year's figures", over years: the reckoning that a ledger carries.
-- To be believed. Assumes nothing.
use Rattle.std.specs.Prelude.{ℕ, ◌+◌, ◌-◌, List, [], ◌∷◌, length, pos, ◌+ℤ◌}
use Rattle.classes.specs.Classes.{emission_factor}
use Rattle.classes.specs.Calendar.{days_in_year}
use Rattle.projection.specs.declared.Region.{Region}
use Rattle.projection.specs.Projection.{projected_carbon, projected_region}
use Rattle.activity.specs.Activity.{activity_emissions}
use Rattle.figures.specs.declared.Figures.{Figures}
use Rattle.figures.specs.declared.Terms.{Terms}
use Rattle.figures.specs.declared.State.{State}
use Rattle.figures.specs.Year.{Year}
use Rattle.figures.specs.Figures.{reference_level, monitored_carbon, counted_factor, stock_change_emissions, figures_of}

-- the reference of a region in a year, and the emissions of a table of conversions: project area and belt alike
unfoldable pub region_reference : Terms → Year → Region → ℕ
region_reference t y region = reference_level (projected_carbon (emission_factor t.stocks) region.areas t.matrix) y.operating_days (days_in_year y.year)

unfoldable pub table_emissions : Terms → List ℕ → ℕ
table_emissions t conversions = stock_change_emissions (monitored_carbon (counted_factor t.option (emission_factor t.stocks)) conversions)

-- the figures of a year that starts from a project area and a belt
unfoldable pub year_figures : Terms → Year → (project belt : Region) → Figures
year_figures t y project belt =
    figures_of (pos (region_reference t y project)) (pos (table_emissions t y.conversions)) (pos (activity_emissions y.activities))
    (pos (table_emissions t y.belt_conversions)) (pos (region_reference t y belt))

-- what a year with these figures changes: the next is due, one fewer is left, both regions are projected, and the period total, the sum of
-- credited, grows
unfoldable pub after_figures : List ℕ → Figures → State → State
after_figures matrix figures s = record {
  year = s.year + 1;
  left = s.left - 1;
  project = projected_region matrix s.project;
  belt = projected_region matrix s.belt;
  total = record { 0 = s.total.0 +ℤ figures.credited.0 };
}

-- an accepted year
unfoldable pub after_year : Terms → Year → State → State
after_year t y s = after_figures t.matrix (year_figures t y s.project s.belt) s

-- the activity records of the years
unfoldable pub record_count : List Year → ℕ
record_count [] = 0
record_count (y ∷ ys) = length y.activities + record_count ys
