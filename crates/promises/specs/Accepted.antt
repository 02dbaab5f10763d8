-- "accepted exactly when", of each call: it answers the number 0.
-- To be believed. Assumes nothing.
use Rattle.std.specs.Prelude.{ℕ, ◌+◌, ◌*◌, ◌≤◌, ◌≡◌, ◌↔◌, List, length}
use Rattle.std.proofs.Math.Option.{Option}
use Rattle.wire.specs.Bytes.{Bytes}
use Rattle.dossier.specs.Plan.{Plan}
use Rattle.dossier.specs.Records.{WellFormedYears, WellFormedOpening, WellFormedYear, WellFormedPlan}
use Rattle.periods.specs.Periods.{EndsInRange}
use Rattle.reckoner.specs.Ledger.{Ledger, due_of}
use Rattle.reckoner.specs.Calls.{answer_number, open_call, year_call, close_says, HandedBack, reckon_number}

-- plan and dossier are well formed, the dossier under the plan, with n years from first on of which P holds
abbrev pub BothWellFormed : (s plan : List ℕ) → (P : (first n : ℕ) → Type 0) → Type 0
BothWellFormed s plan P = (p : Option Plan) × WellFormedPlan p plan × ((first : ℕ) × (n : ℕ) × WellFormedYears first n p s × P first n)

-- an opening where its piece is well formed; a year where its plan is, and its piece for what the ledger has due under that plan; a closing where its
-- buffer is long enough for the years given; the whole reckoning where the plan is well formed, under it the dossier, with n years from some first year
-- on, the list of period ends is in range for them (#107), and the buffer is long enough for years and ends
pub record AcceptedWhen : Type 0 where
  pub opening : (piece : List ℕ) → Bytes piece → (answer_number (open_call piece).answer ≡ 0) ↔ WellFormedOpening piece
  pub year : {l : Ledger} → HandedBack l → (piece plan : List ℕ) → Bytes piece → Bytes plan
      → (answer_number (year_call l piece plan).answer ≡ 0) ↔ ((p : Option Plan) × WellFormedPlan p plan × WellFormedYear (due_of p l) piece)
  pub close : (l : Ledger) (size : ℕ) → ((close_says l size).number ≡ 0) ↔ (64 * l.given + 32 ≤ size)
  pub reckoning : (s plan ends : List ℕ) → Bytes s → Bytes plan → (size : ℕ)
      → (reckon_number s plan ends size ≡ 0) ↔ BothWellFormed s plan (λ first n. EndsInRange first n ends × (64 * n + 32 + 8 * length ends ≤ size))
