-- What is lent as a plan, from what its years are.
-- Assumes nothing.
use Rattle.std.proofs.Common.{ℕ, ◌≡◌, ◌<◌, ◌∷◌, List, [], length, arith, refl}
use Rattle.std.proofs.Math.Option.{none, some}
use Rattle.dossier.specs.Plan.{Plan}
use Rattle.dossier.specs.Reader.{refused, accepted}
use Rattle.dossier.specs.JudgingPlan.{plan_years, plan_fault, lent_plan}
use Rattle.dossier.proofs.PlanSteps.{lent_none, lent-refused, lent_some}

pub no_plan : (s : List ℕ) → length s ≡ 0 → lent_plan s ≡ accepted none []
no_plan [] e = lent_none [] e
no_plan (b ∷ s) e = absurd (omega arith)

module _ (s : List ℕ) (some_bytes : 0 < length s) where
  pub plan_refused : (n m : ℕ) → plan_years 20 0 [] s ≡ refused n → m ≡ plan_fault n → lent_plan s ≡ refused m
  plan_refused n m e f = rw f (lent-refused s some_bytes (plan_fault n) (rw e refl))

  pub plan_read : (plan : Plan) → plan_years 20 0 [] s ≡ accepted plan [] → lent_plan s ≡ accepted (some plan) []
  plan_read plan e = lent_some s some_bytes plan [] (rw e refl)
