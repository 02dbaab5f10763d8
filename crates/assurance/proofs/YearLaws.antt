-- How far each unrounded figure of a year is from the rounded one, and the years one after the other.
-- Assumes nothing.
use Rattle.std.proofs.Common.{◌≡◌, refl, List, [], ◌∷◌, ℕ, suc, ◌+◌, ◌*◌, ◌/◌, ◌≤◌, ◌<◌, mul_assoc, zero-lt-suc, mul-le-mul_right, mul-le-mul_left, mul-pos, div-mul-le_self, arith, lit<, length, pos}
use native.Mathlib.Nat.{lt-div-mul-add}
use Rattle.arithmetic.specs.Rounding.{ceil_div}
use Rattle.arithmetic.specs.Fraction.{Fraction, whole}
use Rattle.arithmetic.proofs.RoundingLaws.{ceil_div-is}
use Rattle.arithmetic.proofs.RatioLaws.{Ratio, ratio_natural, ratio_times, ratio_divided, ratio_quotient}
use Rattle.arithmetic.proofs.NearLaws.{Near, near_sum, near_minus, near_positive, near_wider, near_ratio}
use Rattle.classes.specs.Classes.{emission_factor}
use Rattle.classes.specs.Matrix.{million, RowsSum}
use Rattle.classes.specs.Calendar.{days_in_year}
use Rattle.classes.proofs.CalendarLaws.{divisor_pos}
use Rattle.projection.specs.declared.Region.{Region}
use Rattle.projection.specs.Projection.{area_total, projected_carbon}
use Rattle.projection.proofs.ProjectionLaws.{million_pos}
use Rattle.activity.specs.Records.{Activity}
use Rattle.activity.specs.Activity.{numerator, denominator, activity_grams, activity_emissions}
use Rattle.activity.proofs.ActivityLaws.{denominator_pos}
use Rattle.figures.specs.declared.Terms.{Terms}
use Rattle.figures.specs.declared.State.{State}
use Rattle.figures.specs.Year.{Year}
use Rattle.figures.specs.Figures.{reference_level, stock_change_emissions, displaced_emissions, reduction_of, figures_of}
use Rattle.figures.specs.Reckoning.{region_reference, table_emissions, year_figures, after_figures, after_year}
use Rattle.assurance.specs.Unrounded.{Unrounded, fraction_opened, fraction_reference, fraction_emissions, fraction_activity, fraction_displaced, fraction_reduction, fraction_credited, fraction_after_year}
use Rattle.assurance.proofs.RegionLaws.{Follows, opened_follows, year_follows, carbon-over, carbon-ratio, carbon-low, carbon-high}
use Rattle.assurance.proofs.CreditLaws.{near_credited}

-- ---- reference
reference-below : (v C N R e E : ℕ) → C * N ≤ v → R * E ≤ C * e → 100 * (R * (N * E)) ≤ 100 * (v * e) + 0 * (N * E)
reference-below v C N R e E h k = omega (arith, mul-le-mul_right e h, mul-le-mul_right N k)

reference-above : (v C N R G y d D : ℕ) → v ≤ (C + G * (132 * y)) * N → C * (11 * d) ≤ R * (300 * D) + 300 * D → d ≤ D → 100 * (v * (11 * d)) ≤ (100 * R + (100 + 484 * (G * y))) * (N * (300 * D))
reference-above v C N R G y d D h k d_d = omega (arith, mul-le-mul_right (1100 * d) h, mul-le-mul_right (100 * N) k, mul-le-mul_left (145200 * (G * (y * N))) d_d)

module _ (t : Terms) (G : ℕ) (factor-le : (i j : ℕ) → emission_factor t.stocks i j ≤ G) (rows : RowsSum t.matrix) where
  near_reference : (n start : ℕ) (region : Region) (areasᶠ : ℕ → Fraction) (y : Year) → Follows n start region areasᶠ → y.operating_days ≤ days_in_year y.year
      → Near (pos (region_reference t y region)) (fraction_reference t y areasᶠ) 0 (100 + 484 * (G * suc n))
  unfolding region_reference reference_level fraction_reference
  near_reference n start region areasᶠ y s d_d = rw (mul_assoc C 11 d)
      (near_ratio R 0 (100 + 484 * (G * suc n)) (mul-pos (mul-pos s.n_pos million_pos) (divisor_pos y.year))
      (ratio_divided (300 * D) (divisor_pos y.year) (ratio_times (11 * d) (carbon-ratio n start region areasᶠ s t.matrix rows (emission_factor t.stocks) G factor-le)))
      (reference-below v C (s.n * million) R (11 * d) (300 * D) (carbon-low n start region areasᶠ s t.matrix rows (emission_factor t.stocks) G factor-le)
      (div-mul-le_self (C * (11 * d)) (300 * D)))
      (reference-above v C (s.n * million) R G (suc n) d D (carbon-high n start region areasᶠ s t.matrix rows (emission_factor t.stocks) G factor-le)
      (omega (arith, lt-div-mul-add {a = C * (11 * d)} (divisor_pos y.year))) d_d))
    where
      d : ℕ
      d = y.operating_days

      D : ℕ
      D = days_in_year y.year

      C : ℕ
      C = projected_carbon (emission_factor t.stocks) region.areas t.matrix

      R : ℕ
      R = C * (11 * d) / (300 * D)

      v : ℕ
      v = carbon-over n start region areasᶠ s t.matrix rows (emission_factor t.stocks) G factor-le

-- ---- what is rounded up: project, belt, and each activity record
near_up : {x : Fraction} (a n : ℕ) → 0 < n → Ratio x a n → Near (pos (ceil_div a n)) x 100 0
near_up a n n_pos h = near_ratio (ceil_div a n) 100 0 n_pos h (omega (arith, ceil_div-is a n n_pos)) (omega (arith, ceil_div-is a n n_pos))

near_emissions : (t : Terms) (conversions : List ℕ) → Near (pos (table_emissions t conversions)) (fraction_emissions t conversions) 100 0
unfolding table_emissions stock_change_emissions fraction_emissions
near_emissions t conversions = near_up _ 300 (lit< tt) (ratio_quotient 300 (lit< tt) (ratio_times 11 (ratio_natural _)))

near_activity : (records : List Activity) → Near (pos (activity_emissions records)) (fraction_activity records) (100 * length records) 0
unfolding activity_emissions activity_grams fraction_activity
near_activity [] = near_ratio 0 0 0 (zero-lt-suc 0) (ratio_natural 0) (omega arith) (omega arith)
near_activity (a ∷ rest) =
    let own = near_up (numerator a) (denominator a) (denominator_pos a) (ratio_quotient (denominator a) (denominator_pos a) (ratio_natural (numerator a))) in
    near_wider (omega arith) (omega arith) (near_sum own (near_activity rest))

-- ---- the year

-- after n years with m activity records in all, by factors of at most G: the reckoning and the unrounded one
pub record Reckoned (G n m project_start belt_start : ℕ) (r : State) (u : Unrounded) : Type 0 where
  pub project : Follows n project_start r.project u.project
  pub belt : Follows n belt_start r.belt u.belt
  pub total : Near r.total.0 u.total 0 (484 * (G * (n * suc n)) + 400 * n + 100 * m)
  pub none : n ≡ 0 → (r.total.0 ≡ pos 0) × (u.total ≡ whole (pos 0))

pub opened-reckoned : (G : ℕ) (s : State) → s.project.balance.0 ≡ 0 → s.belt.balance.0 ≡ 0 → s.total.0 ≡ pos 0
    → Reckoned G 0 0 (area_total s.project.areas) (area_total s.belt.areas) s (fraction_opened s)
unfolding fraction_opened
opened-reckoned G s p b z = record {
  project = opened_follows s.project p;
  belt = opened_follows s.belt b;
  total = rw z (near_ratio 0 0 _ (zero-lt-suc 0) (ratio_natural 0) (omega arith) (omega arith));
  none = λ h. (z, refl);
}

module _ (t : Terms) (G : ℕ) (factor-le : (i j : ℕ) → emission_factor t.stocks i j ≤ G) (rows : RowsSum t.matrix) where
  module _ (n m project_start belt_start : ℕ) (r : State) (u : Unrounded) (s : Reckoned G n m project_start belt_start r u) (y : Year) (d_d : y.operating_days ≤ days_in_year y.year) where
    -- how far the year's reduction may lie below its unrounded one, in hundredths of a gram; the area that rounding lost in the years before counts in it
    abbrev year_gap : ℕ
    year_gap = 968 * (G * suc n) + 400 + 100 * length y.activities

    near_displaced : Near (displaced_emissions (pos (table_emissions t y.belt_conversions)) (pos (region_reference t y r.belt))) (fraction_displaced t y u.belt) (100 + (100 + 484 * (G * suc n))) 0
    unfolding displaced_emissions fraction_displaced
    near_displaced = near_positive (near_minus (near_emissions t y.belt_conversions) (near_reference t G factor-le rows n belt_start r.belt u.belt y s.belt d_d))

    near_reduction : Near (year_figures t y r.project r.belt).reduction.0 (fraction_reduction t y u) 0 year_gap
    unfolding year_figures figures_of reduction_of fraction_reduction
    near_reduction =
        let reference = near_reference t G factor-le rows n project_start r.project u.project y s.project d_d in
        let own = near_minus (near_minus reference (near_emissions t y.conversions)) (near_activity y.activities) in
        near_wider (omega arith) (omega arith) (near_minus own near_displaced)

    near_credit : Near (year_figures t y r.project r.belt).credited.0 (fraction_credited (fraction_reduction t y u)) 0 year_gap
    unfolding year_figures figures_of
    near_credit = near_credited year_gap (omega arith) near_reduction

    pub year-reckoned : Reckoned G (suc n) (m + length y.activities) project_start belt_start (after_year t y r) (fraction_after_year t y u)
    unfolding after_year after_figures fraction_after_year
    year-reckoned = record {
      project = year_follows n project_start r.project u.project s.project t.matrix rows;
      belt = year_follows n belt_start r.belt u.belt s.belt t.matrix rows;
      total = near_wider (omega arith) (omega arith) (near_sum s.total near_credit);
      none = λ h. let z : ⊥ = omega arith in absurd z;
    }
