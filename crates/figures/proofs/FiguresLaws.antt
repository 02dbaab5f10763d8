-- A year's figures: what the code's sums and quotients come to, their ranges, and that a greater reduction never credits less.
-- Assumes nothing.
use mathlib.Core.Path.{◌≡◌, ◌∙◌, ap, sym}
use mathlib.Core.List.{List}
use Prim.Native.Nat.{ℕ, ◌+◌, ◌*◌, ◌/◌, ◌%◌, ◌≤◌, ◌<◌}
use native.Mathlib.Nat.{le_trans, le_of_eq, mul_assoc, mul-le-mul, mul-le-mul_left, mul-le-mul_right, div-le_of_le-mul}
use native.Mathlib.Omega.{arith}
use lib.Dec.{lit≤}
use lib.IntN.{ℤ, pos, negsuc, ◌-ℤ◌}
use lib.Signed.{◌≤ℤ◌, mag}
use lib.ListN.{get_or}
use Rattle.arithmetic.specs.Sum.{sum}
use Rattle.arithmetic.specs.Rounding.{positive_part}
use Rattle.arithmetic.proofs.SumLaws.{sum_rows, sum2-le, sum2-mul}
use Rattle.arithmetic.proofs.RoundingLaws.{ceil_div-le, split_down}
use Rattle.arithmetic.proofs.IntegerLaws.{above, below, parts_le, le_parts, mag_minus}
use Rattle.classes.specs.Classes.{classes, greatest_area, greatest_stock}
use Rattle.classes.specs.Matrix.{entry}
use Rattle.classes.specs.Calendar.{days_in_year}
use Rattle.classes.specs.Ranges.{greatest_emissions, greatest_activity, greatest_figure}
use Rattle.classes.proofs.CalendarLaws.{days_range}
use Rattle.projection.specs.declared.Region.{Region}
use Rattle.projection.specs.Projection.{area_total, projected_carbon}
use Rattle.classes.specs.Ranges.{RowsWithin}
use Rattle.projection.specs.Ranges.{SmallRegion}
use Rattle.projection.proofs.ProjectionLaws.{projected_carbon-le}
use Rattle.figures.specs.declared.YearCarbon.{YearCarbon}
use Rattle.figures.specs.declared.YearDays.{YearDays}
use Rattle.figures.specs.Figures.{reference_level, monitored_carbon, stock_change_emissions, displaced_emissions, reduction_of, credited_of, tonnes_of, figures_of}
use Rattle.figures.specs.Carbon.{carbon_figures}
use Rattle.figures.specs.Ranges.{SmallCarbon, SmallYear, SmallTable, DaysOf, FiguresSmall}

-- the carbon of all conversions, place by place
pub monitored_places : (conversions factors : List ℕ) → sum 144 (λ k. get_or conversions k 0 * get_or factors k 0) ≡ monitored_carbon (entry factors) conversions
unfolding monitored_carbon
monitored_places conversions factors = sum_rows classes classes (λ k. get_or conversions k 0 * get_or factors k 0)

pub monitored_small : (conversions : List ℕ) (factor : ℕ → ℕ → ℕ) → SmallTable conversions → ((i j : ℕ) → factor i j ≤ greatest_stock) → SmallCarbon (monitored_carbon factor conversions)
unfolding monitored_carbon
monitored_small conversions factor small most =
    le_trans (sum2-le classes (λ i j. entry conversions i j * factor i j) (λ i j. entry conversions i j * greatest_stock) (λ i j h h'. mul-le-mul_left (entry conversions i j) (most i j)))
    (le_trans (le_of_eq (sum2-mul classes (entry conversions) greatest_stock)) (mul-le-mul_right greatest_stock (rw (sum_rows classes classes (λ k. get_or conversions k 0)) at small)))

-- the projected carbon of a small region is small
pub projected-small : (region : Region) (matrix : List ℕ) (factor : ℕ → ℕ → ℕ) → SmallRegion region → RowsWithin matrix → ((i j : ℕ) → factor i j ≤ greatest_stock)
    → SmallCarbon (projected_carbon factor region.areas matrix)
projected-small region matrix factor small rows most =
    let all : area_total region.areas ≤ greatest_area = omega arith in
    le_trans (projected_carbon-le region.areas matrix rows factor greatest_stock most) (mul-le-mul_right greatest_stock all)

-- days of operation that are not above the days of their calendar year
pub calendar_days : (days : YearDays) (year : ℕ) → days.calendar ≡ days_in_year year → days.operating ≤ days.calendar → DaysOf days
calendar_days days year e h = (h, omega (arith, days_range year), omega (arith, days_range year))

-- ---- grams that carbon makes
module _ {carbon : ℕ} (small : SmallCarbon carbon) where
  pub reference-small : (days : YearDays) → DaysOf days → reference_level carbon days.operating days.calendar ≤ greatest_emissions
  unfolding reference_level
  reference-small days (h, positive, most) =
      omega (arith, div-le_of_le-mul (300 * days.calendar) {m = carbon * 11 * days.operating} {n = greatest_emissions} (omega (arith, mul-le-mul small h)))

  -- the quotient weighed, and the remainder weighed and divided
  pub reference_split : (days : YearDays) → DaysOf days
      → carbon / (300 * days.calendar) * (11 * days.operating) + carbon % (300 * days.calendar) * (11 * days.operating) / (300 * days.calendar)
      ≡ reference_level carbon days.operating days.calendar
  unfolding reference_level
  reference_split days h =
      split_down carbon (11 * days.operating) (300 * days.calendar) (omega (arith, h.1)) ∙ ap (λ (n : ℕ). n / (300 * days.calendar)) (sym (mul_assoc carbon 11 days.operating))

  pub emissions-small : stock_change_emissions carbon ≤ greatest_emissions
  unfolding stock_change_emissions
  emissions-small = omega (arith, ceil_div-le (carbon * 11) 300 greatest_emissions (lit≤ tt) (omega arith))

-- ---- the figures that follow from others
positive-le : (z : ℤ) → mag (positive_part z) ≤ mag z
positive-le (pos n) = omega arith
positive-le (negsuc n) = omega arith

pub displaced-small : (belt reference : ℤ) → mag belt ≤ greatest_emissions → mag reference ≤ greatest_emissions
    → mag (displaced_emissions belt reference) ≤ 2 * greatest_emissions + 1
unfolding displaced_emissions
displaced-small belt reference b r = omega (arith, positive-le (belt -ℤ reference), mag_minus belt reference)

credited-le : (reduction : ℤ) → mag (credited_of reduction) ≤ mag reduction
unfolding credited_of
credited-le (pos n) = omega arith
credited-le (negsuc n) = omega arith

-- a greater reduction never credits less
pub credited_mono : (a b : ℤ) → a ≤ℤ b → credited_of a ≤ℤ credited_of b
unfolding credited_of
credited_mono a b h = parts_le (credited_of a) (credited_of b) (go a b (le_parts a b h))
  where
    go : (a b : ℤ) → above a + below b ≤ above b + below a → above (credited_of a) + below (credited_of b) ≤ above (credited_of b) + below (credited_of a)
    go (pos a) (pos b) h = omega arith
    go (pos a) (negsuc b) h = omega arith
    go (negsuc a) (pos b) h = omega arith
    go (negsuc a) (negsuc b) h = omega arith

pub tonnes-le : (total : ℤ) → tonnes_of total ≤ mag total
unfolding tonnes_of
tonnes-le (pos n) = omega arith
tonnes-le (negsuc n) = omega arith

-- the differences that make up the reduction
pub reduction_steps : (reference project activity displaced : ℤ) → mag reference ≤ greatest_emissions → mag project ≤ greatest_emissions
    → mag activity ≤ greatest_activity → mag displaced ≤ 2 * greatest_emissions + 1
    → (mag (reference -ℤ project) < greatest_figure) × (mag (reference -ℤ project -ℤ activity) < greatest_figure)
    × (mag (reference -ℤ project -ℤ activity -ℤ displaced) < greatest_figure)
reduction_steps reference project activity displaced r p a d =
    let one = mag_minus reference project in
    let two = mag_minus (reference -ℤ project) activity in
    let three = mag_minus (reference -ℤ project -ℤ activity) displaced in
    (omega arith, omega arith, omega arith)

-- ---- each of the eight figures is within the ladder
pub figures-small : (reference project activity belt belt_reference : ℤ) → mag reference ≤ greatest_emissions → mag project ≤ greatest_emissions
    → mag activity ≤ greatest_activity → mag belt ≤ greatest_emissions → mag belt_reference ≤ greatest_emissions
    → FiguresSmall (figures_of reference project activity belt belt_reference)
unfolding figures_of reduction_of
figures-small reference project activity belt belt_reference r p a b br =
    let displaced = displaced_emissions belt belt_reference in
    let d = displaced-small belt belt_reference b br in
    let reduced = (reduction_steps reference project activity displaced r p a d).2 in
    record {
      reference = omega arith;
      project = omega arith;
      activity = omega arith;
      belt = omega arith;
      belt-reference = omega arith;
      displaced = omega arith;
      reduction = reduced;
      credited = omega (arith, credited-le (reference -ℤ project -ℤ activity -ℤ displaced));
    }

-- those of a year's carbon and activity
pub year-small : (project belt : YearCarbon) (activity : ℤ) (days : YearDays) → SmallYear project → SmallYear belt → mag activity ≤ greatest_activity → DaysOf days
    → FiguresSmall (carbon_figures project belt activity days)
year-small project belt activity days p b a h =
    figures-small _ _ activity _ _ (reference-small p.0 days h) (emissions-small p.1) a (emissions-small b.1) (reference-small b.0 days h)
