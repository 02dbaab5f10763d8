-- Document 01, "Calls and sheet": a dossier is its opening and its years, given to a ledger one after the other and closed.
-- To be believed. Assumes nothing.
use Rattle.std.specs.Prelude.{ℕ, ◌+◌, ◌*◌, ◌≤◌, ◌≡◌, List, [], ◌++◌, map, length, take, replicate}
use Rattle.std.proofs.Math.Option.{Option}
use Rattle.figures.specs.Year.{Year}
use Rattle.wire.specs.Bytes.{bytes, joined}
use Rattle.dossier.specs.Marks.{mark_en}
use Rattle.dossier.specs.Plan.{Plan}
use Rattle.dossier.specs.Records.{opening_bytes, settled, year_bytes, Dossier, DossierInRange, dossier_bytes, WellFormedPlan}
use Rattle.periods.specs.Periods.{EndsInRange}
use Rattle.reckoner.specs.Calls.{answer_number, open_call, close_says, closed_buffer, reckon_says, reckon_buffer}
use Rattle.sheet.specs.Sheet.{sheet_of}
use Rattle.printout.specs.Printout.{printout}
use Rattle.promises.specs.CallList.{Call, giving, ledger_after, years_after, standing}
use Rattle.promises.specs.Reported.{Reported}
use Rattle.promises.specs.Periods.{PeriodsReported}
use Rattle.promises.specs.Lists.{ListAssured}

-- the whole reckoning of s under a plan, with no list of period ends, is an opening and calls, and closing then: they say the same and write the same
-- bytes, whatever the buffer
pub record SameInPieces (s plan opening : List ℕ) (calls : List Call) : Type 0 where
  pub says : (size : ℕ) → reckon_says s plan [] size ≡ close_says (ledger_after opening calls) size
  pub buffers : (buffer : List ℕ) → reckon_buffer s plan [] buffer ≡ closed_buffer (ledger_after opening calls) buffer

-- the years of a dossier, each given by its own bytes; #103: "a dossier's years given to a ledger come with the dossier's plan"
abbrev pub year_calls : (plan : List ℕ) → List Year → List Call
year_calls plan years = map (λ (y : Year). giving (year_bytes y) plan) years

-- the bytes of the whole reckoning with a list of period ends: demands 2 and 3 of them, what they say of the tonnes issued, and that all before these is
-- as with no list
pub record ReckoningAssured (s plan : List ℕ) (d : Dossier) (ends buffer : List ℕ) : Type 0 where
  pub reported : Reported (settled d.opening) d.years (reckon_buffer s plan ends buffer)
  pub periods : PeriodsReported d.opening.head.first_year (length d.years) ends (reckon_buffer s plan ends buffer)
  pub without : take (64 * length d.years + 32) (reckon_buffer s plan ends buffer) ≡ take (64 * length d.years + 32) (reckon_buffer s plan [] buffer)

-- "its bytes before the first YR opened, its first y years given, then closed": opening and years are accepted one after the other and bring its
-- records; demand 3 holds of this list, and so after each of its years; "after its last year the dossier's own balances are meant as well"; what
-- `yearsheet` prints, which lends no plan and no list, is the sheet of its years over the report in a buffer for 20, of which `own` says every figure
pub record DossierAssured (s plan : List ℕ) (d : Dossier) : Type 0 where
  pub pieces : s ≡ opening_bytes d.opening ++ (joined (map year_bytes d.years) ++ bytes 2 mark_en)
  pub opened : answer_number (open_call (opening_bytes d.opening)).answer ≡ 0
  pub stand : standing (opening_bytes d.opening) (year_calls plan d.years) ≡ year_calls plan d.years
  pub brought : years_after (opening_bytes d.opening) (year_calls plan d.years) ≡ d.years
  pub list : ListAssured (opening_bytes d.opening) (year_calls plan d.years)
  pub same : SameInPieces s plan (opening_bytes d.opening) (year_calls plan d.years)
  pub own : (ends : List ℕ) → EndsInRange d.opening.head.first_year (length d.years) ends
      → (buffer : List ℕ) → 64 * length d.years + 32 + 8 * length ends ≤ length buffer → ReckoningAssured s plan d ends buffer
  pub printed : plan ≡ [] → printout s ≡ sheet_of d.opening.head.first_year (length d.years) (reckon_buffer s [] [] (replicate 1312 0))

-- what the number 0 says of the dossier, the plan, the list and the size of the buffer that the whole reckoning was lent
pub record CallAssured (s plan ends : List ℕ) (size : ℕ) : Type 0 where
  pub lent : Option Plan
  pub well_formed : WellFormedPlan lent plan
  pub dossier : Dossier
  pub in_range : DossierInRange lent dossier
  pub encoded : s ≡ dossier_bytes dossier
  pub in_years : EndsInRange dossier.opening.head.first_year (length dossier.years) ends
  pub enough : 64 * length dossier.years + 32 + 8 * length ends ≤ size
  pub assured : DossierAssured s plan dossier
