-- A year looked for among those of a plan.
-- Assumes nothing.
use Rattle.std.proofs.Common.{ℕ, zero, suc, arith, IfSome, ◌≡◌, List, [], ◌∷◌, map, All, Option, Some, None, Bool, true, false, eqb, cond, refl}
use Rattle.std.proofs.Math.Option.{Option as Chosen, none, some}
use Rattle.std.specs.List.{find}
use borrow.Author.Tests.{eq-eqb, ne_eqb}
use Rattle.activity.specs.Records.{Activity}
use Rattle.dossier.specs.Plan.{PlanYear, Plan, records_in}
use Rattle.plans.specs.declared.PlannedYear.{PlannedYear}
use Rattle.plans.specs.Answers.{records_at, year_of}

abbrev pub is_of : (year : ℕ) → PlannedYear → Bool
is_of year planned = eqb planned.year year

-- the records of a year that was found
abbrev pub records_if_any : Option PlannedYear → Chosen (List Activity)
records_if_any None = none
records_if_any (Some planned) = some (records_at planned.records.now)

pub records_are : (years : List PlannedYear) (year : ℕ) → records_in (map year_of years) year ≡ records_if_any (find (is_of year) years)
unfolding records_in
records_are [] year = refl
records_are (planned ∷ rest) year = go (eqb planned.year year) (records_are rest year)
  where
    go : (here : Bool) → records_in (map year_of rest) year ≡ records_if_any (find (is_of year) rest)
        → cond here (some (records_at planned.records.now)) (records_in (map year_of rest) year) ≡ records_if_any (cond here (Some planned) (find (is_of year) rest))
    go true e = refl
    go false e = e

-- what holds of each holds of the one that is found
pub found_one : {X : Type 0} (P : X → Type 0) (test : X → Bool) (xs : List X) → All P xs → IfSome (find test xs) P
found_one P test [] each = tt
found_one P test (x ∷ rest) each = go (test x) (each zero x (omega arith)) (found_one P test rest (λ k d h. each (suc k) d (omega (arith, h))))
  where
    go : (here : Bool) → P x → IfSome (find test rest) P → IfSome (cond here (Some x) (find test rest)) P
    go true this later = this
    go false this later = later

-- ---- year by year: the first of the years is the one, or not, or there is none
pub here : (planned : PlanYear) (rest : Plan) (year : ℕ) → planned.year ≡ year → records_in (planned ∷ rest) year ≡ some planned.activities
unfolding records_in
here planned rest year e = rw (eq-eqb planned.year year e)

pub elsewhere : (planned : PlanYear) (rest : Plan) (year : ℕ) → (planned.year ≡ year → ⊥) → records_in (planned ∷ rest) year ≡ records_in rest year
unfolding records_in
elsewhere planned rest year f = rw (ne_eqb planned.year year f)

pub nowhere : (year : ℕ) → records_in [] year ≡ none
unfolding records_in
nowhere year = refl
