-- Request #103, "Planned quantities": the plan, which owners file once as a second lent input: its years with their activity records, their ranges,
-- and its bytes.
-- To be believed. Assumes nothing.
use Rattle.std.specs.Prelude.{ℕ, ◌+◌, ◌≤◌, cond, List, [], ◌∷◌, map, eqb, length}
use Rattle.std.proofs.Math.Option.{Option, none, some}
use Rattle.activity.specs.Records.{Activity}
use Rattle.activity.specs.Activity.{Within, RunInRange}
use Rattle.wire.specs.Bytes.{bytes, joined}
use Rattle.dossier.specs.Marks.{mark_py, mark_en}
use Rattle.dossier.specs.Layouts.{activity_bytes}

-- "PY with a 16-bit year, then up to 60 activity records"
pub record PlanYear : Type 0 where
  pub year : ℕ
  pub activities : List Activity

pub record PlanYearInRange (least : ℕ) (p : PlanYear) : Type 0 where
  pub years : Within least p.year 65_535
  pub activities : RunInRange p.activities

unfoldable pub plan_year_bytes : PlanYear → List ℕ
plan_year_bytes p = joined (bytes 2 mark_py ∷ bytes 2 p.year ∷ joined (map activity_bytes p.activities) ∷ [])

-- "with years rising": the first is least or later, each of the others later than the one before it
abbrev pub PlanYearsInRange : (least : ℕ) → List PlanYear → Type 0
PlanYearsInRange least [] = Unit {0}
PlanYearsInRange least (p ∷ rest) = PlanYearInRange least p × PlanYearsInRange (p.year + 1) rest

-- "this 0 to 20 times in all .., then EN and nothing more"
abbrev pub Plan : Type 0
Plan = List PlanYear

pub record PlanInRange (plan : Plan) : Type 0 where
  pub count : length plan ≤ 20
  pub years : PlanYearsInRange 0 plan

unfoldable pub plan_bytes : Plan → List ℕ
plan_bytes plan = joined (joined (map plan_year_bytes plan) ∷ bytes 2 mark_en ∷ [])

-- a plan in range, or none
abbrev pub PlanLent : Option Plan → Type 0
PlanLent none = Unit {0}
PlanLent (some plan) = PlanInRange plan

-- the records that a plan has for a year, if it has the year
unfoldable pub records_in : Plan → ℕ → Option (List Activity)
records_in [] year = none
records_in (p ∷ rest) year = cond (eqb p.year year) (some p.activities) (records_in rest year)

-- of what is lent: no plan has none
unfoldable pub records_for : Option Plan → ℕ → Option (List Activity)
records_for none year = none
records_for (some plan) year = records_in plan year
