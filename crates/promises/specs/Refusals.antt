-- Demand 1: "totals or one numbered refusal"; a refusal returns its number, no totals, and leaves ledger and buffer as they were. The number is one
-- of the call's own causes.
-- To be believed. Assumes nothing.
use Rattle.std.specs.Prelude.{ℕ, ◌+◌, ◌*◌, ◌<◌, ◌≡◌, ◌↔◌, List, [], ◌∷◌, length}
use Rattle.std.proofs.Math.Option.{Option}
use Rattle.dossier.specs.Causes.{buffer_too_short, plan_not_of_form, record_repeated, ends_wrong, causes, opening_causes, year_causes, closing_causes, ZeroOr}
use Rattle.dossier.specs.Plan.{Plan}
use Rattle.dossier.specs.Records.{WellFormedPlan}
use Rattle.dossier.specs.Repeated.{PlanRepeats}
use Rattle.wire.specs.Bytes.{Bytes}
use Rattle.periods.specs.Periods.{EndsInRange}
use Rattle.reckoner.specs.Ledger.{Ledger, empty_ledger}
use Rattle.reckoner.specs.Calls.{answer_number, open_call, year_call, close_call, close_says, closed_buffer, reckon_number, reckon_buffer}
use Rattle.sheet.specs.Sheet.{refusal_of}
use Rattle.printout.specs.Printout.{printout}
use Rattle.promises.specs.Accepted.{BothWellFormed}

-- #103, "12 for a plan not of this form": neither a plan's bytes nor none
abbrev pub NotOfForm : List ℕ → Type 0
NotOfForm plan = (p : Option Plan) → WellFormedPlan p plan → ⊥

-- the number n of a call that is lent a plan: 12 just for bytes that are no plan and whose first fault is not a repeated record; 14 where it is (#105)
pub record ByPlan (n : ℕ) (plan : List ℕ) : Type 0 where
  pub unfit : (n ≡ plan_not_of_form) ↔ (NotOfForm plan × (PlanRepeats plan → ⊥))
  pub repeats : PlanRepeats plan → n ≡ record_repeated

-- of any bytes, any plan, any list of period ends, any ledger and any buffer; a plan's own number by the plan alone, "judged before dossier or piece"
-- (#103), whatever these, the ledger and the buffer are; the list's "judged after the dossier" (#107): just where plan and dossier are well formed and the
-- list is not in range for the dossier's years, whatever the buffer is; "10 comes last": just where all three are sound and the buffer is too short;
-- `yearsheet` lends no plan, no list and a buffer for 20 years, 1,312 bytes, and prints of refused bytes the number alone
pub record RefusalsLeave : Type 0 where
  pub opening : (piece : List ℕ) → (answer_number (open_call piece).answer ≡ 0 → ⊥) → (open_call piece).ledger ≡ empty_ledger
  pub year : (l : Ledger) (piece plan : List ℕ) → (answer_number (year_call l piece plan).answer ≡ 0 → ⊥) → (year_call l piece plan).ledger ≡ l
  pub close : (l : Ledger) (buffer : List ℕ) → ((close_says l (length buffer)).number ≡ 0 → ⊥) → closed_buffer l buffer ≡ buffer
  pub closing : (l : Ledger) (size : ℕ) → (close_call l size).ledger ≡ l
  pub reckoning : (s plan ends buffer : List ℕ) → (reckon_number s plan ends (length buffer) ≡ 0 → ⊥) → reckon_buffer s plan ends buffer ≡ buffer
  pub opening_number : (piece : List ℕ) → ZeroOr opening_causes (answer_number (open_call piece).answer)
  pub year_number : (l : Ledger) (piece plan : List ℕ) → ZeroOr (plan_not_of_form ∷ year_causes) (answer_number (year_call l piece plan).answer)
  pub closing_number : (l : Ledger) (size : ℕ) → ZeroOr closing_causes (close_says l size).number
  pub reckoning_number : (s plan ends : List ℕ) (size : ℕ) → ZeroOr causes (reckon_number s plan ends size)
  pub year_plan : (l : Ledger) (piece plan : List ℕ) → Bytes plan → ByPlan (answer_number (year_call l piece plan).answer) plan
  pub reckoning_plan : (s plan ends : List ℕ) (size : ℕ) → Bytes plan → ByPlan (reckon_number s plan ends size) plan
  pub reckoning_ends : (s plan ends : List ℕ) (size : ℕ) → Bytes s → Bytes plan
      → (reckon_number s plan ends size ≡ ends_wrong) ↔ BothWellFormed s plan (λ first n. EndsInRange first n ends → ⊥)
  pub reckoning_short : (s plan ends : List ℕ) (size : ℕ) → Bytes s → Bytes plan
      → (reckon_number s plan ends size ≡ buffer_too_short) ↔ BothWellFormed s plan (λ first n. EndsInRange first n ends × (size < 64 * n + 32 + 8 * length ends))
  pub printing : (s : List ℕ) → Bytes s → (reckon_number s [] [] 1312 ≡ 0 → ⊥) → printout s ≡ refusal_of (reckon_number s [] [] 1312)
