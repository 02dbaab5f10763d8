-- What is printed of a closing, by its answer.
-- Assumes nothing.
use Rattle.std.proofs.Common.{◌≡◌, ℕ, ◌+◌, ◌*◌, List, [], length, take, drop, Ok, Err, refl, ap}
use Rattle.refusals.specs.declared.Refusal.{Refusal}
use Rattle.refusals.specs.Refusals.{number_of}
use Rattle.reckoner.specs.Ledger.{Ledger}
use Rattle.reckoner.specs.declared.Step.{Step as StepFields}
use Rattle.reckoner.specs.Calls.{Step, periods_answer, close_call, closed_buffer}
use Rattle.reckoner.specs.Said.{answer_of, step_of}
use Rattle.ledgertrace.specs.Closing.{closing_lines, closed_lines}

module _ (l : Ledger) (buffer : List ℕ) (step : StepFields) (h : step_of step ≡ close_call l (length buffer)) where
  answer_is : answer_of step.answer ≡ periods_answer l [] (length buffer)
  unfolding close_call
  answer_is = ap (λ (s : Step). s.answer) h

  pub ledger_is : step.ledger ≡ l
  unfolding close_call
  ledger_is = ap (λ (s : Step). s.ledger) h

  pub refused_lines : (refusal : Refusal) → step.answer ≡ Err refusal
      → closing_lines (number_of refusal) (take 0 (closed_buffer l buffer)) (drop 0 (closed_buffer l buffer)) ≡ closed_lines l buffer
  refused_lines refusal e = rw (← answer_is, e) refl

  pub accepted_lines : step.answer ≡ Ok tt
      → closing_lines 0 (take (64 * step.ledger.given + 32) (closed_buffer l buffer)) (drop (64 * step.ledger.given + 32) (closed_buffer l buffer)) ≡ closed_lines l buffer
  accepted_lines e = rw (← answer_is, e, ledger_is) refl
