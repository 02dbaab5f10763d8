-- Document 01, "Calls and sheet": what each call answers, hands back and writes.
-- To be believed. Assumes nothing.
use Rattle.std.specs.Prelude.{ℕ, ◌+◌, ◌*◌, Bool, cond, List, [], ◌++◌, ltb, ℤ, length}
use Rattle.wire.specs.Bytes.{Bytes}
use Rattle.wire.specs.Signed.{written}
use Rattle.figures.specs.Year.{Year}
use Rattle.dossier.specs.Causes.{buffer_too_short, ends_wrong}
use Rattle.dossier.specs.Records.{Opening, Dossier}
use Rattle.dossier.specs.Reader.{Judged, refused, accepted}
use Rattle.dossier.specs.Judging.{dossier, opening_piece, year_piece}
use Rattle.dossier.specs.JudgingPlan.{under}
use Rattle.periods.specs.Periods.{ends_sound, credited_in, issued_tonnes}
use Rattle.reckoner.specs.Ledger.{Ledger, empty_ledger, opened_ledger, due_of, given_year, ledger_of, first_year, report}

-- what a call answers: that all is accepted, or the number of the refusal
pub data Answer : Type 0 where
  Accepted : Answer
  Refused : ℕ → Answer

-- what a call of a ledger hands back and answers
pub record Step : Type 0 where
  pub ledger : Ledger
  pub answer : Answer

-- what comes of an answer: of a refusal by its number, or of an acceptance
abbrev pub answered : {A : Type 0} → Answer → (refusal : ℕ → A) → (acceptance : A) → A
answered Answer.Accepted refusal acceptance = acceptance
answered (Answer.Refused n) refusal acceptance = refusal n

-- "this paper's number and values" for each case: a refusal says its number and no values, an acceptance 0 and the values that it brings
pub record Said : Type 0 where
  pub number : ℕ
  pub values : List ℤ

abbrev pub said : Answer → (brought : List ℤ) → Said
said Answer.Accepted brought = record { number = 0; values = brought }
said (Answer.Refused n) brought = record { number = n; values = [] }

-- the number of an opening or a year, which brings no values
abbrev pub answer_number : Answer → ℕ
answer_number answer = (said answer []).number

-- "A refused opening hands back an empty ledger"
abbrev pub refused_opening : ℕ → Step
refused_opening n = record { ledger = empty_ledger; answer = Answer.Refused n }

-- ---- the ledger's calls
abbrev pub open_judged : Judged Opening → Step
open_judged (refused n) = refused_opening n
open_judged (accepted o rest) = record { ledger = opened_ledger o; answer = Answer.Accepted }

unfoldable pub open_call : List ℕ → Step
open_call piece = open_judged (opening_piece piece)

-- a refused year leaves the ledger as it was
abbrev pub year_judged : Ledger → Judged Year → Step
year_judged l (refused n) = record { ledger = l; answer = Answer.Refused n }
year_judged l (accepted y rest) = record { ledger = given_year y l; answer = Answer.Accepted }

-- #103: the year is judged under the plan that the call is lent, and the plan before it
unfoldable pub year_call : Ledger → (piece plan : List ℕ) → Step
year_call l piece plan = year_judged l (under plan (λ p. year_piece (due_of p l)) piece)

-- ---- closing, with a list of period ends (#107)
-- "buffer under 64 × n + 32 bytes"; "64 bits per listed end, and 10 counts them"
abbrev pub too_short : (n issues size : ℕ) → Bool
too_short n issues size = ltb size (64 * n + 32 + 8 * issues)

-- "15 for a bad list, judged after the dossier"; "10 comes last"
unfoldable pub periods_answer : Ledger → (ends : List ℕ) (size : ℕ) → Answer
periods_answer l ends size =
    cond (ends_sound (first_year l) l.given ends)
    (cond (too_short l.given (length ends) size) (Answer.Refused buffer_too_short) Answer.Accepted)
    (Answer.Refused ends_wrong)

-- the numbers of the report, and the issued tonnes: "They follow the balances in the buffer"
abbrev pub periods_report : Ledger → (ends : List ℕ) → List ℤ
periods_report l ends = report l ++ issued_tonnes (first_year l) (credited_in l.figures) ends

-- and what is said
abbrev pub periods_says : Ledger → (ends : List ℕ) (size : ℕ) → Said
periods_says l ends size = said (periods_answer l ends size) (periods_report l ends)

-- the buffer afterwards: the numbers and the old bytes beyond them, or as it was
unfoldable pub periods_buffer : Ledger → (ends buffer : List ℕ) → List ℕ
periods_buffer l ends buffer = answered (periods_answer l ends (length buffer)) (λ n. buffer) (written (periods_report l ends) buffer)

-- "Closing after k years (k may be 0) takes k for n in the buffer's layout and length"; it hands back the ledger it got. It has no list
unfoldable pub close_call : Ledger → (size : ℕ) → Step
close_call l size = record { ledger = l; answer = periods_answer l [] size }

-- a closing brings the numbers of its report
abbrev pub close_says : Ledger → (size : ℕ) → Said
close_says l size = periods_says l [] size

abbrev pub closed_buffer : Ledger → (buffer : List ℕ) → List ℕ
closed_buffer l buffer = periods_buffer l [] buffer

-- a whole dossier opened and given its years under the plan that is lent: the ledger after its last year
abbrev pub dossier_judged : Judged Dossier → Step
dossier_judged (refused n) = refused_opening n
dossier_judged (accepted d rest) = record { ledger = ledger_of d; answer = Answer.Accepted }

unfoldable pub dossier_call : (s plan : List ℕ) → Step
dossier_call s plan = dossier_judged (under plan dossier s)

-- "a ledger that these calls handed back"
pub data HandedBack : Ledger → Type 0 where
  opened : (piece : List ℕ) → Bytes piece → HandedBack (open_call piece).ledger
  given : {l : Ledger} → HandedBack l → (piece plan : List ℕ) → Bytes piece → Bytes plan → HandedBack (year_call l piece plan).ledger
  whole : (s plan : List ℕ) → Bytes s → Bytes plan → HandedBack (dossier_call s plan).ledger

-- ---- the whole reckoning: the dossier's ledger closed, with a list or none. "10 comes last": only where plan, dossier and list are accepted
unfoldable pub reckon_says : (s plan ends : List ℕ) (size : ℕ) → Said
reckon_says s plan ends size = answered (dossier_call s plan).answer (λ n. said (Answer.Refused n) []) (periods_says (dossier_call s plan).ledger ends size)

abbrev pub reckon_number : (s plan ends : List ℕ) (size : ℕ) → ℕ
reckon_number s plan ends size = (reckon_says s plan ends size).number

unfoldable pub reckon_buffer : (s plan ends buffer : List ℕ) → List ℕ
reckon_buffer s plan ends buffer = answered (dossier_call s plan).answer (λ n. buffer) (periods_buffer (dossier_call s plan).ledger ends buffer)
