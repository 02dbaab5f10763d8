-- Request #105, "14, after the later record's fields, in a plan too": the bytes whose first fault is a record that equals an earlier one of its year.
-- To be believed. Assumes nothing.
use Rattle.std.specs.Prelude.{ℕ, ◌<◌, ◌≤◌, ◌≡◌, List, [], ◌∷◌, ◌++◌, map, length}
use Rattle.activity.specs.Records.{Activity}
use Rattle.activity.specs.Activity.{residues, ActivityInRange, NoneOf, RunInRange}
use Rattle.wire.specs.Bytes.{bytes, joined}
use Rattle.dossier.specs.Marks.{mark_py}
use Rattle.dossier.specs.Layouts.{activity_bytes}
use Rattle.dossier.specs.Plan.{PlanYear, plan_year_bytes, PlanYearsInRange}

-- a year's activity records as they should be, then one more in range, no third CR, that is one of them; whatever follows
pub record Repeats (s : List ℕ) : Type 0 where
  pub before : List Activity
  pub in_order : RunInRange before
  pub room : length before < 60
  pub again : Activity
  pub in_range : ActivityInRange again
  pub not_third : residues (again ∷ before) ≤ 2
  pub equal : NoneOf before again → ⊥
  pub rest : List ℕ
  pub encoded : s ≡ joined (map activity_bytes before) ++ (activity_bytes again ++ rest)

-- fewer than `most` years of a plan as they should be, the first least or later, then one more that rises, with such records
pub record YearsRepeat (most least : ℕ) (s : List ℕ) : Type 0 where
  pub years : List PlanYear
  pub year : ℕ
  pub in_order : PlanYearsInRange least (years ++ (record { year = year; activities = [] } ∷ []))
  pub room : length years < most
  pub record_bytes : List ℕ
  pub repeats : Repeats record_bytes
  pub encoded : s ≡ joined (map plan_year_bytes years) ++ (bytes 2 mark_py ++ (bytes 2 year ++ record_bytes))

-- the bytes of a plan, "0 to 20 times"
abbrev pub PlanRepeats : List ℕ → Type 0
PlanRepeats plan = YearsRepeat 20 0 plan
