-- Demand 1: a refused call leaves ledger and buffer as they were, and gives the number of one of its causes.
-- Assumes nothing.
use Rattle.std.proofs.Common.{◌≡◌, ℕ, ◌+◌, ◌*◌, ◌<◌, ◌↔◌, T, lit<, List, [], ◌∷◌, length, replicate, refl, ◌∙◌, ap, sym, arith}
use mathlib.Core.Option.{Option, none}
use mathlib.Core.Logic.Iff
use Rattle.wire.specs.Bytes.{Bytes}
use Rattle.figures.specs.Year.{Year}
use Rattle.dossier.specs.Causes.{buffer_too_short, plan_not_of_form, record_repeated, ends_wrong, year_causes}
use Rattle.dossier.specs.Plan.{Plan}
use Rattle.dossier.specs.Records.{WellFormedPlan, dossier_bytes, Dossier, DossierInRange, bytes_if_any}
use Rattle.dossier.specs.Repeated.{PlanRepeats}
use Rattle.dossier.specs.Reader.{Judged, refused, accepted, Reader}
use Rattle.dossier.specs.Judging.{dossier, year_piece}
use Rattle.dossier.specs.JudgingPlan.{lent_plan}
use Rattle.dossier.proofs.CauseLaws.{without, dossier_causes}
use Rattle.dossier.proofs.Causes.{year_piece-causes, dossier_causes_lem}
use Rattle.dossier.proofs.WellFormed.{dossier-accepted, plan-accepted}
use Rattle.dossier.proofs.PlanLaws.{lent_plan-refused}
use Rattle.dossier.proofs.PlanRepeated.{repeats-lent}
use Rattle.dossier.proofs.UnderLaws.{under-refused, under_none, no_plan}
use Rattle.periods.specs.Periods.{EndsInRange, ends_sound}
use Rattle.periods.proofs.EndsLaws.{ends-judged}
use Rattle.reckoner.specs.Ledger.{Ledger, due_of, ledger_of}
use Rattle.reckoner.specs.Calls.{answer_number, open_call, year_call, periods_answer, periods_says, periods_buffer, close_call, dossier_call, reckon_says, reckon_number, reckon_buffer}
use Rattle.reckoner.proofs.CloseLaws.{periods_ten, periods_fifteen}
use Rattle.reckoner.proofs.Numbers.{in_range-sound, closing-number, given-all, number-refused, number-zero, open-numbers, year-numbers, close-numbers, reckon-numbers}
use Rattle.sheet.specs.Sheet.{refusal_of}
use Rattle.printout.specs.Printout.{printed, printout}
use Rattle.promises.specs.Accepted.{BothWellFormed}
use Rattle.promises.specs.Refusals.{NotOfForm, ByPlan, RefusalsLeave}

-- ---- the plan's own number, before anything else is judged: 14 just where it repeats a record first, 12 for any other that is no plan
not-of_form : (plan : List ℕ) → Bytes plan → NotOfForm plan → (PlanRepeats plan → ⊥) → lent_plan plan ≡ refused plan_not_of_form
not-of_form plan b f g =
    let sound = λ (p : Option Plan) (rest : List ℕ) (e : lent_plan plan ≡ accepted p rest). let w = plan-accepted.sound plan b p rest e in f p (w.0, w.1) in
    grind (arith, sound, lent_plan-refused plan, (repeats-lent plan b).0)

-- the number of a call that is the plan's where the plan is refused, and is 12 for no other reason
by_plan : (n : ℕ) (plan : List ℕ) → Bytes plan → ((m : ℕ) → lent_plan plan ≡ refused m → n ≡ m) → (n ≡ plan_not_of_form → NotOfForm plan) → ByPlan n plan
by_plan n plan b first only = record {
  unfit = (λ z. (only z, λ r. grind (arith, repeated r)), λ (f, g). first plan_not_of_form (not-of_form plan b f g));
  repeats = repeated;
}
  where
    repeated : PlanRepeats plan → n ≡ record_repeated
    repeated r = first record_repeated ((repeats-lent plan b).1 r)

year_plan_lem : (l : Ledger) (piece plan : List ℕ) → Bytes plan → ByPlan (answer_number (year_call l piece plan).answer) plan
unfolding year_call
year_plan_lem l piece plan b =
    let judge : Option Plan → Reader Year = λ p. year_piece (due_of p l) in
    by_plan _ plan b (λ m e. rw (under-refused judge piece plan m e))
    (λ z. under_none judge year_causes tt (λ p. year_piece-causes (due_of p l)) plan piece (grind arith))

reckoning_plan_lem : (s plan ends : List ℕ) (size : ℕ) → Bytes plan → ByPlan (reckon_number s plan ends size) plan
reckoning_plan_lem s plan ends size b =
    by_plan _ plan b (λ m e. number-refused s plan ends size m (under-refused dossier s plan m e))
    (λ z. under_none dossier dossier_causes tt dossier_causes_lem plan s (unfold reckon_says dossier_call periods_answer in grind arith))

-- of a dossier under a plan, by its first year and the number of its years
both-well_formed : (s plan : List ℕ) (P : (first n : ℕ) → Type 0)
    → ((p : Option Plan) × WellFormedPlan p plan × ((d : Dossier) × DossierInRange p d × (s ≡ dossier_bytes d) × P d.opening.head.first_year d.opening.head.years)) ↔ BothWellFormed s plan P
both-well_formed s plan P = (
  (λ (p, w, (d, h, es, k)). (p, w, (d.opening.head.first_year, d.opening.head.years, (d, h, es, refl, h.count), k))),
  λ (p, w, (first, n, (d, h, es, since, count), k)). (p, w, (d, h, es, rw (since, sym h.count ∙ count) k)),
)

-- ---- the list's number, after plan and dossier, and the buffer's, after all
-- a number that neither plan nor dossier answers, from what a closing with the list answers
pub last-number : (cause : ℕ) → T (without cause (plan_not_of_form ∷ dossier_causes)) → (s plan ends : List ℕ) (size : ℕ) → Bytes s → Bytes plan → (P : (first n : ℕ) → Type 0)
    → ((p : Option Plan) (d : Dossier) → DossierInRange p d → ((periods_says (ledger_of d) ends size).number ≡ cause) ↔ P d.opening.head.first_year d.opening.head.years)
    → (reckon_number s plan ends size ≡ cause) ↔ BothWellFormed s plan P
last-number cause others s plan ends size b bp P closing = Iff.trans (closing-number cause others s plan ends b bp size _ closing) (both-well_formed s plan P)

reckoning_ends_lem : (s plan ends : List ℕ) (size : ℕ) → Bytes s → Bytes plan → (reckon_number s plan ends size ≡ ends_wrong) ↔ BothWellFormed s plan (λ first n. EndsInRange first n ends → ⊥)
reckoning_ends_lem s plan ends size b bp = last-number ends_wrong tt s plan ends size b bp (λ first n. EndsInRange first n ends → ⊥)
    (λ p d h. grind (arith, periods_fifteen (ledger_of d) ends size, in_range-sound p d h ends))

reckoning_short_lem : (s plan ends : List ℕ) (size : ℕ) → Bytes s → Bytes plan
    → (reckon_number s plan ends size ≡ buffer_too_short) ↔ BothWellFormed s plan (λ first n. EndsInRange first n ends × (size < 64 * n + 32 + 8 * length ends))
reckoning_short_lem s plan ends size b bp = last-number buffer_too_short tt s plan ends size b bp (λ first n. EndsInRange first n ends × (size < 64 * n + 32 + 8 * length ends))
    (λ p d h. grind (arith, periods_ten (ledger_of d) ends size, in_range-sound p d h ends, given-all p d h))

-- an accepted dossier has at most 20 years
refusal_printed : (s : List ℕ) → Bytes s → (reckon_number s [] [] 1312 ≡ 0 → ⊥) → printout s ≡ refusal_of (reckon_number s [] [] 1312)
unfolding printout bytes_if_any
refusal_printed s b h = go (dossier none s) refl
  where
    go : (j : Judged Dossier) → dossier none s ≡ j → printed j (reckon_buffer s [] [] (replicate 1312 0)) ≡ refusal_of (reckon_number s [] [] 1312)
    go (refused n) e = ap refusal_of (sym (number-refused s [] [] 1312 n (no_plan dossier s ∙ e)))
    go (accepted d rest) e =
        let w = (dossier-accepted none tt).sound s b d rest e in
        let few = w.0.opening.head.count.most in
        absurd (h ((number-zero s [] [] b (λ k. lit< tt) 1312).0 (none, (tt, refl), (d, w.0, w.1, (ends-judged _ _ few []).0 (unfold ends_sound in refl), omega arith))))

pub refusals_leave : RefusalsLeave
refusals_leave = record {
  opening = λ piece h. unfold open_call in grind arith;
  year = λ l piece plan h. unfold year_call in grind arith;
  close = λ l buffer h. unfold periods_answer periods_buffer in grind arith;
  closing = λ l size. unfold close_call in refl;
  reckoning = λ s plan ends buffer h. unfold reckon_says reckon_buffer periods_answer periods_buffer in grind arith;
  opening_number = open-numbers;
  year_number = year-numbers;
  closing_number = close-numbers;
  reckoning_number = reckon-numbers;
  year_plan = year_plan_lem;
  reckoning_plan = reckoning_plan_lem;
  reckoning_ends = reckoning_ends_lem;
  reckoning_short = reckoning_short_lem;
  printing = refusal_printed;
}
