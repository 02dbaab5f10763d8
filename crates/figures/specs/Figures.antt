-- Document 01, "A year's figures", in grams of CO2. d = operating days, D = days of that Gregorian year.
-- To be believed. Assumes nothing.
use Rattle.std.specs.Prelude.{ℕ, ◌*◌, ◌/◌, Bool, cond, List, eqb, ℤ, pos, negsuc, ◌+ℤ◌, ◌-ℤ◌, ◌*ℤ◌}
use Rattle.std.specs.Int.Signed.{lt_z}
use Rattle.arithmetic.specs.Sum.{sum}
use Rattle.arithmetic.specs.Rounding.{ceil_div, positive_part}
use Rattle.classes.specs.Classes.{classes, class_nf}
use Rattle.classes.specs.Matrix.{entry}
use Rattle.figures.specs.declared.Figures.{Figures}

-- reference (document 001, equations 1 to 3: project reference level) = projected carbon × 11 × d ÷ (300 × D), down; belt reference alike.
-- 10^-8 tC are 11 ÷ 300 g of CO2: × 44 ÷ 12 × 10^6
unfoldable pub reference_level : (carbon d D : ℕ) → ℕ
reference_level carbon d D = carbon * 11 * d / (300 * D)

-- sum of conversion × factor
unfoldable pub monitored_carbon : (ℕ → ℕ → ℕ) → List ℕ → ℕ
monitored_carbon factor conversions = sum classes (λ i. sum classes (λ j. entry conversions i j * factor i j))

-- under Option 1 only conversions into NF count, in project and belt
unfoldable pub counted_factor : (option : ℕ) (factor : ℕ → ℕ → ℕ) (i j : ℕ) → ℕ
counted_factor option factor i j = cond (eqb option 1) (cond (eqb j class_nf) (factor i j) 0) (factor i j)

-- project (document 001: emissions from stock change) = that sum × 11 ÷ 300, up; belt alike
unfoldable pub stock_change_emissions : ℕ → ℕ
stock_change_emissions carbon = ceil_div (carbon * 11) 300

-- displaced = belt minus belt reference if positive, otherwise 0
unfoldable pub displaced_emissions : (belt belt_reference : ℤ) → ℤ
displaced_emissions belt belt_reference = positive_part (belt -ℤ belt_reference)

-- reduction = reference − project − activity − displaced (may be negative)
unfoldable pub reduction_of : (reference project activity displaced : ℤ) → ℤ
reduction_of reference project activity displaced = reference -ℤ project -ℤ activity -ℤ displaced

-- credited = reduction × 4 ÷ 5 (document 001, equation 42: discount factor 0.2), rounded down; a negative reduction whole (#101; negsuc n is -(n + 1))
unfoldable pub credited_of : ℤ → ℤ
credited_of (pos reduction) = pos (reduction * 4 / 5)
credited_of (negsuc n) = negsuc n

-- tonnes = total ÷ 1,000,000, down; 0 for a negative total
unfoldable pub tonnes_of : ℤ → ℕ
tonnes_of (pos total) = total / 1_000_000
tonnes_of (negsuc n) = 0

-- the figures of a year not given yet
abbrev pub no_figures : Figures
no_figures = record {
  reference = record { 0 = pos 0 };
  project = record { 0 = pos 0 };
  activity = record { 0 = pos 0 };
  belt = record { 0 = pos 0 };
  belt_reference = record { 0 = pos 0 };
  displaced = record { 0 = pos 0 };
  reduction = record { 0 = pos 0 };
  credited = record { 0 = pos 0 };
}

-- the eight figures of a year, from the five that its tables and records bring
unfoldable pub figures_of : (reference project activity belt belt_reference : ℤ) → Figures
figures_of reference project activity belt belt_reference = record {
  reference = record { 0 = reference };
  project = record { 0 = project };
  activity = record { 0 = activity };
  belt = record { 0 = belt };
  belt_reference = record { 0 = belt_reference };
  displaced = record { 0 = displaced_emissions belt belt_reference };
  reduction = record { 0 = reduction_of reference project activity (displaced_emissions belt belt_reference) };
  credited = record { 0 = credited_of (reduction_of reference project activity (displaced_emissions belt belt_reference)) };
}

-- #103, "20 × activity < project + displaced + activity": activity is below five percent of the project net emissions (document 001, H(2))
unfoldable pub small_activity : Figures → Bool
small_activity f = lt_z (pos 20 *ℤ f.activity.0) (f.project.0 +ℤ f.displaced.0 +ℤ f.activity.0)
