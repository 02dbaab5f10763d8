-- Ranges in which every running total fits 64 signed bits, and the running totals as the code keeps them.
-- Serves contracts and proofs; nothing here has to be believed. Assumes nothing.
use Rattle.std.specs.Prelude.{ℕ, ◌*◌, ◌≤◌, ◌<◌, ◌≡◌, List, ℤ, pos, get_or}
use Rattle.std.specs.Int.Signed.{mag}
use Rattle.units.specs.declared.Grams.{Grams}
use Rattle.classes.specs.Ranges.{greatest_figure}
use Rattle.figures.specs.declared.Figures.{Figures}
use Rattle.periods.specs.Periods.{running_total, credited_in}

-- at most 20 years, each with a credit within the ladder of the crate classes
pub record SmallYears (k : ℕ) (figures : List Figures) : Type 0 where
  pub few : k ≤ 20
  pub credits : (i : ℕ) → i < k → mag (credited_in figures i) < greatest_figure

-- running totals of the first k years kept in a list, that of the first y at y
abbrev pub kept_at : List Grams → ℕ → ℤ
kept_at totals y = (get_or totals y (record { 0 = pos 0 })).0

pub record Kept (k : ℕ) (figures : List Figures) (totals : List Grams) : Type 0 where
  pub at : (y : ℕ) → y ≤ k → kept_at totals y ≡ running_total (credited_in figures) y

-- each is within the ladder of the crate classes for so many years
abbrev pub Small : (k : ℕ) → List Grams → Type 0
Small k totals = (y : ℕ) → y ≤ k → mag (kept_at totals y) ≤ y * greatest_figure
