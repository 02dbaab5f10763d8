-- Accepted exactly when well formed: the dossier, an opening piece, a year piece, a plan; and one value for its bytes.
-- Assumes nothing.
use Rattle.std.proofs.Common.{ℕ, ◌≡◌, refl, ◌∙◌, ap, sym, List, [], ◌++◌, append-nil, arith}
use mathlib.Core.Option.{Option}
use Rattle.activity.specs.Records.{Activity}
use Rattle.activity.specs.Activity.{ActivityInRange}
use Rattle.figures.specs.Year.{Year}
use Rattle.dossier.specs.Layouts.{activity_bytes}
use Rattle.dossier.specs.Plan.{Plan, plan_bytes, PlanLent}
use Rattle.dossier.specs.Records.{Opening, OpeningInRange, bytes_if_any, opening_bytes, Due, YearInRange, year_bytes, Dossier, DossierInRange, dossier_bytes}
use Rattle.dossier.specs.Claims.{DueInRange, AcceptedExactly}
use Rattle.dossier.specs.Reader.{Reader}
use Rattle.dossier.specs.JudgingRecords.{activity}
use Rattle.dossier.specs.Judging.{dossier, opening_piece, year_piece}
use Rattle.dossier.specs.JudgingPlan.{lent_plan}
use Rattle.dossier.proofs.ReaderLaws.{was}
use Rattle.dossier.proofs.Exact.{Exact}
use Rattle.dossier.proofs.ExactParts.{Any}
use Rattle.dossier.proofs.ActivityLaws.{activity_exact}
use Rattle.dossier.proofs.TakenLaws.{follows, short_beyond}
use Rattle.dossier.proofs.PlanLaws.{lent_plan_exact, lent-only, lent_then}
use Rattle.dossier.proofs.DossierLaws.{dossier_exact, opening_piece_exact, year_piece_exact}

-- a reader that is exact for values in range with nothing after them
whole : {A : Type 0} {r : Reader A} {e : A → List ℕ} {P : A → List ℕ → Type 0} {Q : A → Type 0} → Exact 0 Any r e P → ((a : A) (t : List ℕ) → P a t → Q a × (t ≡ []))
    → ((a : A) → Q a → P a []) → AcceptedExactly r Q e
whole {r = r} {e = e} x to from = record {
  sound = λ s bs a t q.
      let w = x.only s bs (omega arith) a t q in
      let z = to a t w.1 in
      (z.0, w.2 ∙ ap (λ (l : List ℕ). e a ++ l) z.1 ∙ append-nil (e a), z.1);
  complete = λ a q. rw append-nil at (x.reads a [] tt (from a q));
}

pub dossier-accepted : (plan : Option Plan) → PlanLent plan → AcceptedExactly (dossier plan) (DossierInRange plan) dossier_bytes
dossier-accepted plan lent = whole (dossier_exact plan lent) (λ d t p. p) (λ d p. (p, refl))

pub opening-accepted : AcceptedExactly opening_piece OpeningInRange opening_bytes
opening-accepted = whole opening_piece_exact (λ o t p. p) (λ o p. (p, refl))

pub year-accepted : (due : Due) → DueInRange due → AcceptedExactly (year_piece due) (YearInRange due) year_bytes
year-accepted due h = whole (year_piece_exact due h) (λ y t p. (p.0.0, p.1)) (λ y p. ((p, follows y.planned y.activities [] (short_beyond [] (omega arith))), refl))

pub plan-accepted : AcceptedExactly lent_plan PlanLent (bytes_if_any plan_bytes)
plan-accepted = whole lent_plan_exact lent-only lent_then

-- ---- no bytes are those of two values in range
one : {A : Type 0} {r : Reader A} {Q : A → Type 0} {e : A → List ℕ} → AcceptedExactly r Q e → (a b : A) → Q a → Q b → e a ≡ e b → a ≡ b
one {r = r} x a b p q h = (was (sym (x.complete a p) ∙ ap r h ∙ x.complete b q)).0

pub one_dossier : (plan : Option Plan) → PlanLent plan → (d e : Dossier) → DossierInRange plan d → DossierInRange plan e → dossier_bytes d ≡ dossier_bytes e → d ≡ e
one_dossier plan lent = one (dossier-accepted plan lent)

pub one_opening : (o p : Opening) → OpeningInRange o → OpeningInRange p → opening_bytes o ≡ opening_bytes p → o ≡ p
one_opening = one opening-accepted

pub one_year : (due : Due) → DueInRange due → (y z : Year) → YearInRange due y → YearInRange due z → year_bytes y ≡ year_bytes z → y ≡ z
one_year due h = one (year-accepted due h)

pub one_plan : (p q : Option Plan) → PlanLent p → PlanLent q → bytes_if_any plan_bytes p ≡ bytes_if_any plan_bytes q → p ≡ q
one_plan = one plan-accepted

-- nor of two activity records
pub one_activity : (a b : Activity) → ActivityInRange a → ActivityInRange b → activity_bytes a ≡ activity_bytes b → a ≡ b
one_activity a b p q h = (was (sym (activity_exact.reads a [] tt p) ∙ ap (λ (l : List ℕ). activity (l ++ [])) h ∙ activity_exact.reads b [] tt q)).0
