-- What the functions of this crate answer: a plan's years, each with its records, and the records of a year that were found.
-- Serves contracts of inner functions and proofs; nothing here has to be believed. Assumes nothing.
use Rattle.std.specs.Prelude.{ℕ, ◌≡◌, List, [], ◌++◌, map, Option, Some, None}
use Rattle.std.proofs.Math.Option.{Option as Chosen, none, some}
use denote.Ref.{Bor}
use Rattle.activity.specs.Records.{Activity}
use Rattle.dossier.specs.Plan.{PlanYear, Plan}
use Rattle.dossier.specs.Reader.{Judged, refused, accepted}
use Rattle.dossier.specs.Judging.{activities}
use Rattle.plans.specs.declared.PlannedYear.{PlannedYear}

-- ---- the activity records that bytes begin with
-- what was accepted, and another value where it was refused
abbrev pub value_or : {A : Type 0} → A → Judged A → A
value_or other (refused n) = other
value_or other (accepted value rest) = value

abbrev pub records_at : List ℕ → List Activity
records_at bytes = value_or [] (activities [] bytes)

-- these bytes begin with those records
pub record Holds (records : List Activity) (bytes : List ℕ) : Type 0 where
  pub rest : List ℕ
  pub judged : activities [] bytes ≡ accepted records rest

-- ---- what is lent as a plan: its bytes, and its years, or no plan
pub record Lent : Type 0 where
  pub bytes : List ℕ
  pub years : Chosen Plan

-- a year of it, whose records begin these bytes
abbrev pub year_of : PlannedYear → PlanYear
year_of planned = record { year = planned.year; activities = records_at planned.records.now }

abbrev pub years_of : Option (List PlannedYear) → Chosen Plan
years_of None = none
years_of (Some years) = some (map year_of years)

-- bytes as they lie in others, from a place on
pub record EndOf (whole part : List ℕ) : Type 0 where
  pub front : List ℕ
  pub whole_is : whole ≡ front ++ part

-- ---- the records of a year: a part of the plan's bytes that begins with them, where the plan has the year
pub record PartWith (records : List Activity) (plan part : List ℕ) : Type 0 where
  pub holds : Holds records part
  pub of_plan : EndOf plan part

-- so do those of each year of a plan
abbrev pub IsPartOf : (plan : List ℕ) → PlannedYear → Type 0
IsPartOf plan planned = PartWith (records_at planned.records.now) plan planned.records.now

abbrev pub Finds : Chosen (List Activity) → (plan : List ℕ) → Option (Bor (List ℕ)) → Type 0
Finds none plan None = Unit {0}
Finds none plan (Some part) = ⊥
Finds (some records) plan None = ⊥
Finds (some records) plan (Some part) = PartWith records plan part.now
