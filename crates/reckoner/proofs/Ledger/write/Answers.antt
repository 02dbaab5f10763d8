-- The report and the tonnes issued make up what is written.
use Rattle.std.proofs.Common.{◌≡◌, ◌+◌, ◌*◌, true, take, ap, sym, ◌∙◌, rules}
use Rattle.std.proofs.lemmas.List.Edits.{sets}
use native.Mathlib.Omega.{arith}
use Rattle.wire.specs.Signed.{figures_bytes, written}
use Rattle.report.specs.Report.{reported}
use Rattle.periods.specs.Periods.{ends_sound, credited_in, issued_tonnes}
use Rattle.periods.proofs.EndsLaws.{sound-count}
use Rattle.reckoner.specs.Ledger.{Ledger, first_year, report}
use Rattle.reckoner.proofs.Invariant.{handed-kept}
use Rattle.reckoner.proofs.CloseLaws.{years_given-small, periods-written}
use Rattle.reckoner.proofs.Ledger.write.Goals as goal

pub overflow_mul-ends : goal.overflow_mul-ends
overflow_mul-ends c = record { fits = omega (arith, sound-count _ _ _ (sym c.sound.ensures ∙ c.if-not-sound.false), c.years-given.ensures.few) }

pub overflow_add-length-2 : goal.overflow_add-length-2
overflow_add-length-2 c = record { fits = omega (arith, sound-count _ _ _ (sym c.sound.ensures ∙ c.if-not-sound.false), c.years-given.ensures.few) }

pub write_issued-requires-clause-small_years : goal.write_issued-requires-clause-small_years
write_issued-requires-clause-small_years c =
    let figures = ap (λ (l : Ledger). l.figures) c.self.view_is in
    rw (c.years-given.ensures.value, figures) (years_given-small c.args.self (handed-kept c.years-given.ensures.handed_back))

pub returns-clause-buffer : goal.returns-clause-buffer
unfolding report reported
returns-clause-buffer c =
    let l : Ledger = c.args.self in
    let buffer = c.args.buffer.now in
    let made : c.write_issued.new.buffer
    ≡ sets (written (report l) buffer) (64 * l.given + 32) (figures_bytes (issued_tonnes (first_year l) (credited_in (take l.given l.figures)) c.args.ends.now)) = search rules in
    let sound : ends_sound (first_year l) l.given c.args.ends.now ≡ true = rw (c.first_year-first.ensures.value, c.years-given.ensures.value) at (sym c.sound.ensures ∙ c.if-not-sound.false) in
    periods-written l c.args.ends.now buffer sound (omega (arith, c.years-given.ensures.value, c.if-buffer-length.false)) (handed-kept c.years-given.ensures.handed_back) _ made
