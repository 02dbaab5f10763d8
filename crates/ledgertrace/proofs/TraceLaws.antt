-- An accepted closing wrote the figures that are printed.
-- Assumes nothing.
use Rattle.std.proofs.Common.{◌≡◌, ℕ, ◌+◌, ◌*◌, ◌≤◌, Ok, arith}
use Rattle.reckoner.specs.Ledger.{Ledger}
use Rattle.reckoner.specs.declared.Step.{Step as StepFields}
use Rattle.reckoner.specs.Calls.{close_call}
use Rattle.reckoner.specs.Said.{step_of}
use Rattle.reckoner.proofs.CloseLaws.{close-zero}

pub closed_fits : (l : Ledger) (size : ℕ) (step : StepFields) → step_of step ≡ close_call l size → step.answer ≡ Ok tt → 64 * step.ledger.given + 32 ≤ size
unfolding close_call
closed_fits l size step h e = grind (arith, close-zero l size)
