-- Document 01, "Calls and sheet": "The list in demand 3 holds year calls .. and closings .., in any number and order, refused ones among them."
-- To be believed. Assumes nothing.
use Rattle.std.specs.Prelude.{ℕ, cond, List, [], ◌∷◌, ◌++◌, eqb, length}
use Rattle.wire.specs.Bytes.{Bytes}
use Rattle.figures.specs.Year.{Year}
use Rattle.dossier.specs.Reader.{Judged, refused, accepted}
use Rattle.dossier.specs.Judging.{year_piece}
use Rattle.dossier.specs.JudgingPlan.{under}
use Rattle.reckoner.specs.Ledger.{Ledger, due_of}
use Rattle.reckoner.specs.Calls.{Step, Answer, answer_number, open_call, year_call, close_call}

-- "year calls, each lent bytes of its own, whatever they are, and closings, each lent a result buffer of any length"; #103: "each year call of a list is
-- lent a plan of its own, whatever it is"
pub data Call : Type 0 where
  giving : (piece plan : List ℕ) → Call
  closing : (buffer : List ℕ) → Call

-- what the call answers and hands back, from the ledger it gets
unfoldable pub called : Call → Ledger → Step
called (giving piece plan) l = year_call l piece plan
called (closing buffer) l = close_call l (length buffer)

unfoldable pub after_call : Call → Ledger → Ledger
after_call c l = (called c l).ledger

-- "Each call gets the ledger that the call before it handed back"
unfoldable pub after_calls : List Call → Ledger → Ledger
after_calls [] l = l
after_calls (c ∷ calls) l = after_calls calls (after_call c l)

-- "It starts from the ledger an opening handed back, the empty one of a refused opening too"
unfoldable pub ledger_after : (opening : List ℕ) → List Call → Ledger
ledger_after opening calls = after_calls calls (open_call opening).ledger

-- the piece and the plan of a year call are bytes
abbrev pub LentBytes : List Call → Type 0
LentBytes [] = Unit {0}
LentBytes (giving piece plan ∷ calls) = (Bytes piece × Bytes plan) × LentBytes calls
LentBytes (closing buffer ∷ calls) = LentBytes calls

-- ---- the accepted years of a list, by the verdicts alone
-- the year that was judged, if it is accepted
abbrev pub judged_year : Judged Year → List Year
judged_year (refused n) = []
judged_year (accepted y rest) = y ∷ []

-- the year that a call brings: none where it is refused, or a closing
unfoldable pub brought_year : Call → Ledger → List Year
brought_year (giving piece plan) l = judged_year (under plan (λ p. year_piece (due_of p l)) piece)
brought_year (closing buffer) l = []

unfoldable pub accepted_years : List Call → Ledger → List Year
accepted_years [] l = []
accepted_years (c ∷ calls) l = brought_year c l ++ accepted_years calls (after_call c l)

unfoldable pub years_after : (opening : List ℕ) → List Call → List Year
years_after opening calls = accepted_years calls (open_call opening).ledger

-- ---- the calls of a list that stand: its accepted year calls, those of number 0, in their order
abbrev pub standing_call : Call → Answer → List Call
standing_call (giving piece plan) answer = cond (eqb (answer_number answer) 0) (giving piece plan ∷ []) []
standing_call (closing buffer) answer = []

unfoldable pub standing_calls : List Call → Ledger → List Call
standing_calls [] l = []
standing_calls (c ∷ calls) l = standing_call c (called c l).answer ++ standing_calls calls (after_call c l)

unfoldable pub standing : (opening : List ℕ) → List Call → List Call
standing opening calls = standing_calls calls (open_call opening).ledger
