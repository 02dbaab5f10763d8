-- The values that a closing and the whole reckoning say are those read back from the bytes that they write.
-- Assumes nothing.
use Rattle.std.proofs.Common.{◌≡◌, ℕ, List, [], ◌∷◌, ℤ, length, length-append, arith}
use Rattle.std.proofs.lemmas.Bool.Decides.{nat_tests}
use Rattle.wire.specs.Bytes.{Bytes}
use Rattle.dossier.specs.Causes.{plan_not_of_form}
use Rattle.dossier.specs.Reader.{refused}
use Rattle.dossier.specs.Judging.{dossier}
use Rattle.dossier.specs.JudgingPlan.{under}
use Rattle.dossier.proofs.CauseLaws.{positive, dossier_causes}
use Rattle.dossier.proofs.UnderLaws.{dossier-under-causes}
use Rattle.periods.specs.Periods.{credited_in}
use Rattle.periods.proofs.IssuedLaws.{count-issued}
use Rattle.reckoner.specs.Ledger.{Ledger, first_year}
use Rattle.reckoner.specs.Calls.{periods_answer, periods_says, periods_buffer, HandedBack, whole, dossier_call, reckon_says, reckon_buffer}
use Rattle.reckoner.proofs.Invariant.{handed-kept}
use Rattle.reckoner.proofs.CloseLaws.{report-count}
use Rattle.promises.specs.Values.{Told, ValuesTold}
use Rattle.promises.proofs.ClosingLaws.{numbers_back}

-- of a ledger closed with a list of period ends
periods-told : {l : Ledger} → HandedBack l → (ends buffer : List ℕ) → Told l.given (length ends) (periods_says l ends (length buffer)) (periods_buffer l ends buffer)
unfolding periods_answer
periods-told {l} h ends buffer =
    let kept = handed-kept h in
    record {
      accepted = λ z. grind (arith, length-append {A = ℤ}, report-count l kept, count-issued (first_year l) (credited_in l.figures) ends);
      refused = λ no. grind arith;
      decoded = λ i q. grind (arith, nat_tests, numbers_back l kept ends buffer);
    }

-- of the whole reckoning, which closes a dossier's ledger or refuses with a number that is not 0
reckoning-told : (s plan ends : List ℕ) → Bytes s → Bytes plan → (buffer : List ℕ)
    → Told (dossier_call s plan).ledger.given (length ends) (reckon_says s plan ends (length buffer)) (reckon_buffer s plan ends buffer)
unfolding reckon_says reckon_buffer dossier_call
reckoning-told s plan ends b bp buffer =
    let some = λ (n : ℕ) (e : under plan dossier s ≡ refused n). positive (plan_not_of_form ∷ dossier_causes) tt n (dossier-under-causes plan s n e) in
    let told = periods-told (whole s plan b bp) ends buffer in
    record { accepted = grind (arith, some, told.accepted); refused = grind (arith, some, told.refused); decoded = grind (arith, some, told.decoded) }

pub values-told : ValuesTold
values-told = record { close = λ h buffer. periods-told h [] buffer; reckoning = reckoning-told }
