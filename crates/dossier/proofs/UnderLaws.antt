-- What is judged under a plan that is lent as bytes.
-- Assumes nothing.
use Rattle.std.proofs.Common.{ℕ, ◌≡◌, refl, List, [], ◌∷◌, T, take, arith}
use mathlib.Core.Option.{Option, none}
use Rattle.wire.specs.Bytes.{Bytes}
use Rattle.dossier.specs.Causes.{plan_not_of_form, record_repeated, year_causes, ◌∈◌}
use Rattle.dossier.specs.Plan.{Plan, PlanLent}
use Rattle.dossier.specs.Records.{Due, WellFormedPlan}
use Rattle.dossier.specs.Reader.{Judged, refused, accepted, Reader, after, give, if_any}
use Rattle.dossier.specs.Judging.{dossier, year_piece}
use Rattle.dossier.specs.JudgingPlan.{lent_plan, under}
use Rattle.dossier.proofs.CauseLaws.{listed, without, not_listed, dossier_causes}
use Rattle.dossier.proofs.Causes.{Numbered, year_piece-causes, dossier_causes_lem}
use Rattle.dossier.proofs.PlanLaws.{lent_plan-refused}
use Rattle.dossier.proofs.WellFormed.{plan-accepted}
use Rattle.dossier.proofs.FirstBytes.{first-bytes_settle}

module _ {A : Type 0} (judge : Option Plan → Reader A) (s planned : List ℕ) where
  -- the plan is judged first
  pub under-refused : (n : ℕ) → lent_plan planned ≡ refused n → under planned judge s ≡ refused n
  unfolding under
  under-refused n e = rw e

  pub under-accepted : (p : Option Plan) (rest : List ℕ) → lent_plan planned ≡ accepted p rest → under planned judge s ≡ judge p s
  unfolding under
  under-accepted p rest e = rw e

  -- no bytes are no plan
  no_plan_there : planned ≡ [] → under planned judge s ≡ judge none s
  unfolding under lent_plan if_any give
  no_plan_there e = rw e

  -- what holds of every refusal, and of every acceptance under a plan in range
  pub under-either : (P : Judged A → Type 0) → Bytes planned → ((n : ℕ) → P (refused n))
      → ((p : Option Plan) → PlanLent p → (a : A) (rest : List ℕ) → judge p s ≡ accepted a rest → P (accepted a rest)) → P (under planned judge s)
  unfolding under
  under-either P b refusal acceptance = go (lent_plan planned) refl
    where
      judged : (p : Option Plan) → PlanLent p → (j : Judged A) → judge p s ≡ j → P j
      judged p lent (refused n) e = refusal n
      judged p lent (accepted a rest) e = acceptance p lent a rest e

      go : (j : Judged (Option Plan)) → lent_plan planned ≡ j → P (after j (λ p _. judge p s))
      go (refused n) e = refusal n
      go (accepted p rest) e = judged p (plan-accepted.sound planned b p rest e).0 (judge p s) refl

pub no_plan : {A : Type 0} (judge : Option Plan → Reader A) (s : List ℕ) → under [] judge s ≡ judge none s
no_plan judge s = no_plan_there judge s [] refl

-- its numbers: the plan's, 14 being one of what is judged too, or those of what is judged
pub under-causes : {A : Type 0} (judge : Option Plan → Reader A) (own : List ℕ) → record_repeated ∈ own → ((p : Option Plan) → Numbered own (judge p))
    → (planned : List ℕ) → Numbered (plan_not_of_form ∷ own) (under planned judge)
unfolding under
under-causes {A} judge own too causes planned s n e = grind (arith, lent_plan-refused planned, causes, too)

pub year_piece-under-causes : (due : Option Plan → Due) (planned : List ℕ) → Numbered (plan_not_of_form ∷ year_causes) (under planned (λ p. year_piece (due p)))
year_piece-under-causes due = under-causes (λ p. year_piece (due p)) year_causes (listed _ year_causes tt) (λ p. year_piece-causes (due p))

pub dossier-under-causes : (planned : List ℕ) → Numbered (plan_not_of_form ∷ dossier_causes) (under planned dossier)
dossier-under-causes = under-causes dossier dossier_causes (listed _ dossier_causes tt) dossier_causes_lem

-- where 12 is answered, the bytes are no plan: what is judged under a plan has other numbers
pub under_none : {A : Type 0} (judge : Option Plan → Reader A) (own : List ℕ) → T (without plan_not_of_form own) → ((p : Option Plan) → Numbered own (judge p)) → (planned s : List ℕ)
    → under planned judge s ≡ refused plan_not_of_form → (p : Option Plan) → WellFormedPlan p planned → ⊥
under_none judge own others causes planned s e p lent = grind (arith, plan-accepted.complete, under-accepted, not_listed plan_not_of_form own others, causes p s)

-- the first 65,536 bytes of a dossier settle what it is, whatever the plan
pub under-first-bytes : (planned s : List ℕ) → Bytes planned → Bytes s → under planned dossier (take 65536 s) ≡ under planned dossier s
unfolding under
under-first-bytes planned s bp bs = go (lent_plan planned) refl
  where
    go : (j : Judged (Option Plan)) → lent_plan planned ≡ j → after j (λ p _. dossier p (take 65536 s)) ≡ after j (λ p _. dossier p s)
    go (refused n) e = refl
    go (accepted p rest) e = first-bytes_settle p (plan-accepted.sound planned bp p rest e).0 s bs
