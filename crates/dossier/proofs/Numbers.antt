-- The number 0 says accepted: of a dossier, an opening piece and a year piece.
-- Assumes nothing.
use Rattle.std.proofs.Common.{ℕ, ◌≡◌, ◌↔◌, List, ◌∷◌, arith, T}
use mathlib.Core.Option.{Option}
use Rattle.wire.specs.Bytes.{Bytes}
use Rattle.dossier.specs.Causes.{plan_not_of_form, opening_causes, year_causes}
use Rattle.dossier.specs.Plan.{Plan, PlanLent}
use Rattle.dossier.specs.Records.{Due, WellFormedOpening, WellFormedYear, WellFormedPlan}
use Rattle.dossier.specs.Claims.{DueInRange, number_of, AcceptedExactly}
use Rattle.dossier.specs.Reader.{refused, Reader}
use Rattle.dossier.specs.Judging.{opening_piece, year_piece}
use Rattle.dossier.specs.JudgingPlan.{under}
use Rattle.dossier.proofs.CauseLaws.{all_positive, positive}
use Rattle.dossier.proofs.Causes.{Numbered, opening_piece-causes}
use Rattle.dossier.proofs.WellFormed.{plan-accepted, opening-accepted, year-accepted}
use Rattle.dossier.proofs.UnderLaws.{year_piece-under-causes}

number-zero : {A : Type 0} {r : Reader A} {Q : A → Type 0} {e : A → List ℕ} → AcceptedExactly r Q e → (allowed : List ℕ) → T (all_positive allowed)
    → Numbered allowed r → (s : List ℕ) → Bytes s → ((a : A) × Q a × (s ≡ e a)) ↔ (number_of (r s) ≡ 0)
number-zero {A} {r} {Q} {e} x allowed some causes s b =
    let above = λ (n : ℕ) (d : r s ≡ refused n). positive allowed some n (causes s n d) in
    grind (arith, x.complete, x.sound s b)

pub opening-zero : (s : List ℕ) → Bytes s → WellFormedOpening s ↔ (number_of (opening_piece s) ≡ 0)
opening-zero = number-zero opening-accepted opening_causes tt opening_piece-causes

-- of what is judged under a plan: the plan is well formed, and the rest is under it
pub under-zero : {A : Type 0} {judge : Option Plan → Reader A} {Q : Option Plan → A → Type 0} {e : A → List ℕ} → ((p : Option Plan) → PlanLent p → AcceptedExactly (judge p) (Q p) e)
    → (allowed : List ℕ) → T (all_positive allowed) → ((planned : List ℕ) → Numbered allowed (under planned judge)) → (s planned : List ℕ) → Bytes s → Bytes planned
    → ((p : Option Plan) × WellFormedPlan p planned × ((a : A) × Q p a × (s ≡ e a))) ↔ (number_of (under planned judge s) ≡ 0)
unfolding under
under-zero {A} {judge} {Q} {e} x allowed some causes s planned b bp =
    let above = λ (n : ℕ) (d : under planned judge s ≡ refused n). positive allowed some n (causes planned s n d) in
    grind (arith, plan-accepted.complete, plan-accepted.sound planned bp, x)

pub year-zero : (due : Option Plan → Due) → ((p : Option Plan) → PlanLent p → DueInRange (due p)) → (s planned : List ℕ) → Bytes s → Bytes planned
    → ((p : Option Plan) × WellFormedPlan p planned × WellFormedYear (due p) s) ↔ (number_of (under planned (λ p. year_piece (due p)) s) ≡ 0)
year-zero due h = under-zero (λ p lent. year-accepted (due p) (h p lent)) (plan_not_of_form ∷ year_causes) tt (year_piece-under-causes due)
