-- Request #103: one judgement of any bytes as a plan, and what is judged under a plan.
-- To be believed. Assumes nothing.
use Rattle.std.specs.Prelude.{ℕ, zero, suc, ◌+◌, cond, List, [], ◌∷◌, ◌++◌, ltb, eqb, length}
use Rattle.std.proofs.Math.Option.{Option}
use Rattle.dossier.specs.Causes.{plan_not_of_form, record_repeated}
use Rattle.dossier.specs.Marks.{mark_py, mark_en}
use Rattle.dossier.specs.Plan.{PlanYear, Plan}
use Rattle.dossier.specs.Reader.{Judged, refused, accepted, Reader, after, ◌>>=◌, ◌>>◌, give, mark, is, upon, if_any, begin, field, within, nothing}
use Rattle.dossier.specs.Judging.{activities}

-- a year of the plan, least or later
unfoldable pub plan_year : (least : ℕ) → Reader PlanYear
plan_year least = do
  begin mark_py 2
  year ← field 2
  within plan_not_of_form least year 65_535
  records ← activities []
  give (record { year = year; activities = records })

-- "then EN and nothing more": the plan of these years
unfoldable pub plan_end : List PlanYear → Reader Plan
plan_end years = do
  mark mark_en
  nothing
  give years

-- the plan's years: those before are read already, up to `more` may follow, the next of them least or later
unfoldable pub plan_years : (more least : ℕ) → List PlanYear → Reader Plan
plan_years zero least before = plan_end before
plan_years (suc more) least before = upon (is mark_py) (do p ← plan_year least; plan_years more (p.year + 1) (before ++ (p ∷ []))) (plan_end before)

-- "12 for a plan not of this form", whatever is wrong; 14 "in a plan too" (#105)
abbrev pub plan_fault : ℕ → ℕ
plan_fault n = cond (eqb n record_repeated) record_repeated plan_not_of_form

-- what is refused, with another number
abbrev pub renumbered : {A : Type 0} → (ℕ → ℕ) → Judged A → Judged A
renumbered f (refused n) = refused (f n)
renumbered f (accepted a rest) = accepted a rest

unfoldable pub plan : Reader Plan
plan s = renumbered plan_fault (plan_years 20 0 [] s)

-- "Zero bytes mean no plan"
unfoldable pub lent_plan : Reader (Option Plan)
lent_plan = if_any (λ s. ltb 0 (length s)) plan

-- "judged before dossier or piece": s judged under the plan that the lent bytes are; what is wrong with these comes first
unfoldable pub under : {A : Type 0} (lent : List ℕ) → (Option Plan → Reader A) → Reader A
under lent judge s = after (lent_plan lent) (λ p _. judge p s)
