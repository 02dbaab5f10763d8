-- A closing, with a list of period ends or none, and the whole reckoning, from the numbers of the list and of the buffer.
-- Assumes nothing.
use Rattle.std.proofs.Common.{◌≡◌, ℕ, ◌+◌, ◌*◌, ◌≤◌, ◌<◌, Bool, true, false, ◌↔◌, List, [], length, take, length-append, refl, ◌∙◌, sym, arith, lt-ltb, le-ltb}
use Rattle.std.proofs.lemmas.Bool.Decides.{nat_tests}
use Rattle.std.proofs.lemmas.List.{get_or-take, length-take-le}
use Rattle.std.proofs.lemmas.List.Edits.{sets}
use Rattle.wire.specs.Signed.{figures_bytes, written}
use Rattle.wire.proofs.SignedLaws.{written-more}
use Rattle.report.specs.Report.{reported}
use Rattle.report.proofs.ReportLaws.{length-years}
use Rattle.figures.specs.Figures.{no_figures}
use Rattle.dossier.specs.Causes.{buffer_too_short, ends_wrong}
use Rattle.periods.specs.Periods.{ends_sound, credited_in, issued_tonnes}
use Rattle.periods.specs.Ranges.{SmallYears}
use Rattle.periods.proofs.EndsLaws.{sound-inside}
use Rattle.periods.proofs.IssuedLaws.{count-issued}
use Rattle.periods.proofs.RunningLaws.{first_years_issue}
use Rattle.reckoner.specs.Ledger.{Ledger, first_year, report}
use Rattle.reckoner.specs.Calls.{Answer, said, too_short, periods_answer, periods_report, periods_says, periods_buffer, close_call, close_says, Step, dossier_call, reckon_says, reckon_number, reckon_buffer}
use Rattle.reckoner.proofs.Invariant.{LedgerKept}

-- ---- the numbers written, of a ledger that the calls handed back
pub years-small : (l : Ledger) → LedgerKept l → SmallYears l.given l.figures
years-small l k = record { few = omega (arith, k.count); credits = λ i h. (k.figures i h).credited }

-- as a list of their own
pub years_given-small : (l : Ledger) → LedgerKept l → SmallYears (length (take l.given l.figures)) (take l.given l.figures)
years_given-small l k =
    let count : length (take l.given l.figures) ≡ l.given = length-take-le l.given l.figures (omega (arith, k.count, k.twenty)) in
    record {
      few = omega (arith, count, k.count);
      credits = λ i h. let given : i < l.given = omega (arith, count) in rw (credited_in, get_or-take l.given l.figures i no_figures given) ((years-small l k).credits i given);
    }

pub report-count : (l : Ledger) → LedgerKept l → length (report l) ≡ 8 * l.given + 4
unfolding report reported
report-count l k = rw length-append (omega (arith, length-years l.given l.figures (omega (arith, k.count, k.twenty))))

-- ---- with a list: 15, 10, or the numbers written
abbrev pub sound : Ledger → List ℕ → Bool
sound l ends = ends_sound (first_year l) l.given ends

-- 15 just where the list is not sound, whatever the buffer
pub periods_fifteen : (l : Ledger) (ends : List ℕ) (size : ℕ) → ((periods_says l ends size).number ≡ ends_wrong) ↔ (sound l ends ≡ false)
unfolding periods_answer
periods_fifteen l ends size = grind arith

-- 10 just where it is, and the buffer is too short
pub periods_ten : (l : Ledger) (ends : List ℕ) (size : ℕ)
    → ((periods_says l ends size).number ≡ buffer_too_short) ↔ ((sound l ends ≡ true) × (size < 64 * l.given + 32 + 8 * length ends))
unfolding periods_answer
periods_ten l ends size = grind (arith, nat_tests)

module _ (l : Ledger) (ends buffer : List ℕ) where
  pub periods_wrong : sound l ends ≡ false → (ends_wrong ≡ (periods_says l ends (length buffer)).number) × (buffer ≡ periods_buffer l ends buffer)
  unfolding periods_answer periods_buffer
  periods_wrong e = rw e (refl, refl)

  -- the report, and after it the tonnes issued
  module _ (e : sound l ends ≡ true) (h : 64 * l.given + 32 + 8 * length ends ≤ length buffer) where
    pub buffer_is : periods_buffer l ends buffer ≡ written (periods_report l ends) buffer
    unfolding periods_answer periods_buffer
    buffer_is = grind (arith, nat_tests)

    pub periods-written : LedgerKept l → (after : List ℕ)
        → after ≡ sets (written (report l) buffer) (64 * l.given + 32) (figures_bytes (issued_tonnes (first_year l) (credited_in (take l.given l.figures)) ends))
        → after ≡ periods_buffer l ends buffer
    periods-written k after ea =
        let issued = issued_tonnes (first_year l) (credited_in l.figures) ends in
        let same = first_years_issue l.given (first_year l) l.figures ends (sound-inside (first_year l) l.given ends e) in
        let count = count-issued (first_year l) (credited_in l.figures) ends in
        let all = written-more (report l) issued buffer (64 * l.given + 32) (omega (arith, report-count l k)) (omega (arith, count)) in
        ea ∙ rw same (all ∙ sym buffer_is)

-- accepted just where the list is sound and the buffer holds 64 × n + 32 bytes and 8 for each end
pub periods-zero : (l : Ledger) (ends : List ℕ) (size : ℕ)
    → ((periods_says l ends size).number ≡ 0) ↔ ((sound l ends ≡ true) × (64 * l.given + 32 + 8 * length ends ≤ size))
unfolding periods_answer
periods-zero l ends size = grind (arith, nat_tests)

-- ---- the ledger's own closing, which has no list
pub close-zero : (l : Ledger) (size : ℕ) → ((close_says l size).number ≡ 0) ↔ (64 * l.given + 32 ≤ size)
close-zero l size =
    let x = periods-zero l [] size in
    ((λ h. omega (arith, (x.0 h).1)), λ h. x.1 (unfold ends_sound in refl, omega arith))

module _ (l : Ledger) (size n : ℕ) (e : n ≡ (close_says l size).number) where
  pub close_no : (n ≡ 0 → ⊥) → record { ledger = l; answer = Answer.Refused n } ≡ close_call l size
  unfolding close_call periods_answer ends_sound
  close_no f =
      let short : 64 * l.given + 32 ≤ size → ⊥ = λ h. f (e ∙ (close-zero l size).1 h) in
      rw (e, lt-ltb size (64 * l.given + 32 + 8 * 0) (omega arith))

  pub close-yes : n ≡ 0 → record { ledger = l; answer = Answer.Accepted } ≡ close_call l size
  unfolding close_call periods_answer ends_sound
  close-yes f = let h = (close-zero l size).0 (sym e ∙ f) in rw (le-ltb size (64 * l.given + 32 + 8 * 0) (omega arith))

-- ---- the whole reckoning from the dossier's ledger
module _ (s plan ends buffer : List ℕ) (r : Step) (e : r ≡ dossier_call s plan) where
  pub reckon_no : (n : ℕ) → r.answer ≡ Answer.Refused n → (n ≡ reckon_number s plan ends (length buffer)) × (buffer ≡ reckon_buffer s plan ends buffer)
  unfolding reckon_says reckon_buffer
  reckon_no n f = rw (reckon_number, ← e, f) (refl, refl)

  pub reckon-yes : r.answer ≡ Answer.Accepted → (n : ℕ) (after : List ℕ)
      → (n ≡ (periods_says r.ledger ends (length buffer)).number) × (after ≡ periods_buffer r.ledger ends buffer)
      → (n ≡ reckon_number s plan ends (length buffer)) × (after ≡ reckon_buffer s plan ends buffer)
  unfolding reckon_says reckon_buffer
  reckon-yes f n after h = rw (reckon_number, ← e, f) h
