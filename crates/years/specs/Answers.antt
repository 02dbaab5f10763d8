-- A year as the reckoning takes it: its tables by their carbon, and its records by their emissions.
-- Serves contracts of inner functions and proofs; nothing here has to be believed. Assumes nothing.
use Rattle.std.specs.Prelude.{ℕ, ◌≡◌, ◌≤◌, Bool, true, false, List, Result, Ok, Err, Some, pos}
use Rattle.std.proofs.Math.Option.{Option, none}
use denote.Ref.{Bor}
use Rattle.std.specs.Int.Signed.{mag}
use Rattle.units.specs.declared.CarbonUnits.{CarbonUnits}
use Rattle.units.specs.declared.Grams.{Grams}
use Rattle.classes.specs.Calendar.{days_in_year}
use Rattle.classes.specs.Ranges.{greatest_activity}
use Rattle.activity.specs.Records.{Activity}
use Rattle.activity.specs.Activity.{activity_emissions}
use Rattle.figures.specs.declared.YearDays.{YearDays}
use Rattle.figures.specs.Year.{Year}
use Rattle.figures.specs.Figures.{monitored_carbon}
use Rattle.figures.specs.Ranges.{SmallCarbon}
use Rattle.refusals.specs.declared.Refusal.{Refusal}
use Rattle.refusals.specs.Refusals.{number_of}
use Rattle.dossier.specs.Causes.{planned_year_wrong}
use Rattle.dossier.specs.Reader.{Reader, ◌>>=◌, give}
use Rattle.plans.specs.Answers.{Finds}
use Rattle.dossier.specs.Judging.{Taken, taken, year_left}
use Rattle.years.specs.declared.Emissions.{Emissions}

-- ---- a year's activity records, or those that a plan has for it
abbrev pub emissions : Taken → Emissions
emissions records = record { planned = records.planned; activity = record { 0 = pos (activity_emissions records.activities) } }

unfoldable pub summed_records : Option (List Activity) → Reader Emissions
summed_records from_plan = do
  records ← taken from_plan
  give (emissions records)

-- ---- the bytes that a year's activity records are read from: a part of the plan that has the year, where PL stands, otherwise what is left of the dossier
abbrev pub PartFor : (planned : Bool) → Option (List Activity) → (plan own : List ℕ) → Result (Bor (List ℕ)) Refusal → Type 0
PartFor true from_plan plan own (Ok part) = Finds from_plan plan (Some part)
PartFor true from_plan plan own (Err refusal) = (number_of refusal ≡ planned_year_wrong) × (from_plan ≡ none)
PartFor false from_plan plan own (Ok part) = part.now ≡ own
PartFor false from_plan plan own (Err refusal) = ⊥

-- ---- YR to the last activity record
pub record Summary : Type 0 where
  pub days : YearDays
  pub project : CarbonUnits
  pub belt : CarbonUnits
  pub planned : Bool
  pub activity : Grams

abbrev pub summary : (ℕ → ℕ → ℕ) → Year → Summary
summary factor y = record {
  days = record { operating = y.operating_days; calendar = days_in_year y.year };
  project = record { 0 = monitored_carbon factor y.conversions };
  belt = record { 0 = monitored_carbon factor y.belt_conversions };
  planned = y.planned;
  activity = record { 0 = pos (activity_emissions y.activities) };
}

unfoldable pub summarized_year : (ℕ → ℕ → ℕ) → (from_plan : Option (List Activity)) (due_year left start beltstart : ℕ) → Reader Summary
summarized_year factor from_plan due_year left start beltstart = do
  y ← year_left from_plan due_year left start beltstart
  give (summary factor y)

-- in ranges in which a year's figures fit 64 bits; so are its days, by their type
pub record SmallSummary (y : Summary) : Type 0 where
  pub project : SmallCarbon y.project.0
  pub belt : SmallCarbon y.belt.0
  pub activity : mag y.activity.0 ≤ greatest_activity
