-- The calls of a ledger read step by step, as the code reads them.
-- Serves contracts of inner functions and proofs; nothing here has to be believed. Assumes nothing.
use Rattle.std.specs.Prelude.{ℕ, zero, suc, Result, Ok, Err}
use Rattle.std.proofs.Math.Option.{Option}
use Rattle.refusals.specs.declared.Refusal.{Refusal}
use Rattle.refusals.specs.Refusals.{number_of}
use Rattle.dossier.specs.Reader.{Judged, refused, accepted, Reader, ◌>>=◌, ◌>>◌, give, end_of_piece}
use Rattle.dossier.specs.Plan.{Plan}
use Rattle.dossier.specs.Judging.{year, end}
use Rattle.opening.specs.Opened.{settled_opening, settled_piece}
use Rattle.reckoner.specs.Ledger.{Ledger, new_ledger, due_of, given_year}
use Rattle.reckoner.specs.Calls.{Answer, Step}

-- ---- what is read
-- the ledger of an opening piece
unfoldable pub opened_piece : Reader Ledger
opened_piece = do
  o ← settled_piece
  give (new_ledger o.terms o.state)

-- years given to a ledger one after the other under a plan: the next k of the bytes
unfoldable pub give_years : Option Plan → ℕ → Ledger → Reader Ledger
give_years plan zero l = give l
give_years plan (suc k) l = do
  y ← year (due_of plan l)
  give_years plan k (given_year y l)

-- the one year of a piece given to a ledger
unfoldable pub given_piece : Ledger → Option Plan → Reader Ledger
given_piece l plan = do
  given ← give_years plan 1 l
  end_of_piece
  give given

-- the ledger of a dossier: opened, given all its years, and EN after them
unfoldable pub given_dossier : Option Plan → Reader Ledger
given_dossier plan = do
  o ← settled_opening
  given ← give_years plan o.state.left (new_ledger o.terms o.state)
  end
  give given

-- ---- what a call answers and hands back: the ledger that was made, or the one that stays
abbrev pub step_judged : (stays : Ledger) → Judged Ledger → Step
step_judged stays (refused n) = record { ledger = stays; answer = Answer.Refused n }
step_judged stays (accepted made rest) = record { ledger = made; answer = Answer.Accepted }

abbrev pub step_made : (stays : Ledger) → Result Ledger Refusal → Step
step_made stays (Ok made) = record { ledger = made; answer = Answer.Accepted }
step_made stays (Err refusal) = record { ledger = stays; answer = Answer.Refused (number_of refusal) }
