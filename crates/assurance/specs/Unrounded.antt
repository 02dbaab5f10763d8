-- Document 01, "Unrounded reckoning": fractions throughout, rounding nowhere. The ᶠ marks what is a fraction.
-- To be believed. Assumes nothing.
use Rattle.std.specs.Prelude.{ℕ, ◌*◌, cond, List, [], ◌∷◌, pos}
use Rattle.std.proofs.Common.{lit<}
use Rattle.std.specs.Int.Signed.{non_neg}
use Rattle.arithmetic.specs.Fraction.{Fraction, whole, ◌+ᶠ◌, ◌-ᶠ◌, ◌×ᶠ◌, ◌÷ᶠ◌by◌, if_positive, fraction_sum}
use Rattle.classes.specs.Classes.{classes, emission_factor}
use Rattle.classes.specs.Matrix.{entry, million}
use Rattle.classes.specs.Calendar.{days_in_year}
use Rattle.projection.specs.Projection.{area}
use Rattle.activity.specs.Records.{Activity}
use Rattle.activity.specs.Activity.{numerator, denominator}
use Rattle.activity.proofs.ActivityLaws.{denominator_pos}
use Rattle.classes.proofs.CalendarLaws.{divisor_pos}
use Rattle.figures.specs.declared.Terms.{Terms}
use Rattle.figures.specs.declared.State.{State}
use Rattle.figures.specs.Year.{Year}
use Rattle.figures.specs.Figures.{monitored_carbon, counted_factor}

-- its state: twelve fractions for the project and twelve for the belt, by class, and a total
pub record Unrounded : Type 0 where
  pub project : ℕ → Fraction
  pub belt : ℕ → Fraction
  pub total : Fraction

-- they start as the areas of the opened state, those of PA and DA, and 0
unfoldable pub fraction_opened : State → Unrounded
fraction_opened s = record { project = λ i. whole (pos (area s.project.areas i)); belt = λ i. whole (pos (area s.belt.areas i)); total = whole (pos 0) }

-- flow i to j = area i × probability ÷ 1,000,000
unfoldable pub fraction_flow : (areas : ℕ → Fraction) (matrix : List ℕ) (i j : ℕ) → Fraction
fraction_flow areas matrix i j = areas i ×ᶠ entry matrix i j ÷ᶠ million by lit< tt

-- carbon = sum of flow × factor
unfoldable pub fraction_carbon : (ℕ → ℕ → ℕ) → (ℕ → Fraction) → List ℕ → Fraction
fraction_carbon factor areas matrix = fraction_sum classes (λ i. fraction_sum classes (λ j. fraction_flow areas matrix i j ×ᶠ factor i j))

-- reference = carbon × 11 × d ÷ (300 × D); belt reference alike
unfoldable pub fraction_reference : Terms → Year → (ℕ → Fraction) → Fraction
fraction_reference t y areas = fraction_carbon (emission_factor t.stocks) areas t.matrix ×ᶠ (11 * y.operating_days) ÷ᶠ (300 * days_in_year y.year) by divisor_pos y.year

-- project = sum of conversion × factor, × 11 ÷ 300; belt alike. Under Option 1 only conversions into NF count in both
unfoldable pub fraction_emissions : Terms → List ℕ → Fraction
fraction_emissions t conversions = whole (pos (monitored_carbon (counted_factor t.option (emission_factor t.stocks)) conversions)) ×ᶠ 11 ÷ᶠ 300 by lit< tt

-- activity = sum of the records' formulas
unfoldable pub fraction_activity : List Activity → Fraction
fraction_activity [] = whole (pos 0)
fraction_activity (a ∷ rest) = (whole (pos (numerator a)) ÷ᶠ denominator a by denominator_pos a) +ᶠ fraction_activity rest

-- displaced = belt − belt reference if positive, otherwise 0
unfoldable pub fraction_displaced : Terms → Year → (ℕ → Fraction) → Fraction
fraction_displaced t y belt = if_positive (fraction_emissions t y.belt_conversions -ᶠ fraction_reference t y belt)

-- reduction = reference − project − activity − displaced
unfoldable pub fraction_reduction : Terms → Year → Unrounded → Fraction
fraction_reduction t y u = fraction_reference t y u.project -ᶠ fraction_emissions t y.conversions -ᶠ fraction_activity y.activities -ᶠ fraction_displaced t y u.belt

-- credited, what the total grows by: reduction × 4 ÷ 5; a negative reduction whole (#101). The sign is that of the unrounded reduction
unfoldable pub fraction_credited : Fraction → Fraction
fraction_credited reduction = cond (non_neg reduction.num) (reduction ×ᶠ 4 ÷ᶠ 5 by lit< tt) reduction

-- area j becomes the sum of flows into j
unfoldable pub fraction_next_areas : (ℕ → Fraction) → List ℕ → ℕ → Fraction
fraction_next_areas areas matrix j = fraction_sum classes (λ i. fraction_flow areas matrix i j)

-- an accepted year, and the accepted years one after the other
unfoldable pub fraction_after_year : Terms → Year → Unrounded → Unrounded
fraction_after_year t y u = record { project = fraction_next_areas u.project t.matrix; belt = fraction_next_areas u.belt t.matrix; total = u.total +ᶠ fraction_credited (fraction_reduction t y u) }

unfoldable pub fraction_after_years : Terms → List Year → Unrounded → Unrounded
fraction_after_years t [] u = u
fraction_after_years t (y ∷ ys) u = fraction_after_years t ys (fraction_after_year t y u)
