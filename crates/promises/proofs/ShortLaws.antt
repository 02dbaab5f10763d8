-- A closing by a sound list: with a buffer too short for it the number of a short buffer, and every byte as it was; otherwise 0, and the report with the
-- tonnes issued.
-- Assumes nothing.
use Rattle.std.proofs.Common.{ℕ, ◌≡◌, ◌+◌, ◌*◌, ◌≤◌, ◌<◌, List, true, length, refl, sym, arith}
use Rattle.std.proofs.lemmas.Bool.Decides.{nat_tests}
use Rattle.std.proofs.lemmas.List.Edits.{sets}
use Rattle.dossier.specs.Causes.{buffer_too_short}
use Rattle.wire.specs.Signed.{figures_bytes, written}
use Rattle.periods.specs.Periods.{credited_in, issued_tonnes}
use Rattle.periods.proofs.EndsLaws.{sound-inside}
use Rattle.periods.proofs.RunningLaws.{first_years_issue}
use Rattle.reckoner.specs.Ledger.{Ledger, first_year, report}
use Rattle.reckoner.specs.Calls.{periods_answer, periods_says, periods_buffer}
use Rattle.reckoner.proofs.Invariant.{LedgerKept}
use Rattle.reckoner.proofs.CloseLaws.{sound, periods-written, periods-zero}

pub periods_short : (l : Ledger) (ends buffer : List ℕ) → sound l ends ≡ true → length buffer < 64 * l.given + 32 + 8 * length ends
    → (buffer_too_short ≡ (periods_says l ends (length buffer)).number) × (buffer ≡ periods_buffer l ends buffer)
unfolding periods_answer periods_buffer
periods_short l ends buffer e h = grind (arith, nat_tests)

pub periods_closed : (l : Ledger) (ends buffer : List ℕ) → sound l ends ≡ true → 64 * l.given + 32 + 8 * length ends ≤ length buffer → LedgerKept l
    → (first : ℕ) → first ≡ first_year l → (reported after : List ℕ) → reported ≡ written (report l) buffer
    → after ≡ sets reported (64 * l.given + 32) (figures_bytes (issued_tonnes first (credited_in l.figures) ends))
    → (0 ≡ (periods_says l ends (length buffer)).number) × (after ≡ periods_buffer l ends buffer)
periods_closed l ends buffer e h k first ef reported after er ea =
    let same = first_years_issue l.given (first_year l) l.figures ends (sound-inside (first_year l) l.given ends e) in
    (sym ((periods-zero l ends (length buffer)).1 (e, h)), periods-written l ends buffer e h k after (rw (er, ef, ← same) at ea))
