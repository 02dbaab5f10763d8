-- Demand 3, "a single claim about the list as a whole", of any opening piece and any list of calls after it.
-- To be believed. Assumes nothing.
use Rattle.std.specs.Prelude.{ℕ, ◌+◌, ◌*◌, ◌≤◌, ◌≡◌, ◌↔◌, List, length, take}
use Rattle.dossier.specs.Records.{Opening, empty_terms, empty_state, Settled, settled}
use Rattle.dossier.specs.Reader.{Judged, refused, accepted}
use Rattle.dossier.specs.Judging.{opening_piece}
use Rattle.reckoner.specs.Ledger.{Ledger}
use Rattle.reckoner.specs.Calls.{answer_number, closed_buffer, HandedBack}
use Rattle.promises.specs.CallList.{Call, giving, called, ledger_after, brought_year, years_after, standing}
use Rattle.promises.specs.Reported.{Reported}

-- what an opening piece settles; all zeros where it is refused
abbrev pub settled_by : Judged Opening → Settled
settled_by (refused n) = record { terms = empty_terms; state = empty_state }
settled_by (accepted o rest) = settled o

-- closing after a list of calls, "with a buffer long enough" for its accepted years; the ledger there is one "that these calls handed back"
pub record ClosingAssured (opening : List ℕ) (calls : List Call) : Type 0 where
  pub handed : HandedBack (ledger_after opening calls)
  pub count : (ledger_after opening calls).given ≡ length (years_after opening calls)
  pub closed : (buffer : List ℕ) → 64 * length (years_after opening calls) + 32 ≤ length buffer
      → Reported (settled_by (opening_piece opening)) (years_after opening calls) (closed_buffer (ledger_after opening calls) buffer)

-- the accepted years are those whose calls answered 0; the calls that stand come to the same ledger; closing "after the list, or after its y-th
-- accepted year", which is after the first y calls that stand
pub record ListAssured (opening : List ℕ) (calls : List Call) : Type 0 where
  pub brought : (l : Ledger) (piece plan : List ℕ) → (answer_number (called (giving piece plan) l).answer ≡ 0) ↔ (length (brought_year (giving piece plan) l) ≡ 1)
  pub after : ClosingAssured opening calls
  pub same : ledger_after opening (standing opening calls) ≡ ledger_after opening calls
  pub number : length (standing opening calls) ≡ length (years_after opening calls)
  pub first : (y : ℕ) → years_after opening (take y (standing opening calls)) ≡ take y (years_after opening calls)
  pub after_first : (y : ℕ) → ClosingAssured opening (take y (standing opening calls))
