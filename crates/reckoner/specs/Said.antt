-- What the code's ledger, answer and step are, in the terms of the calls.
-- To be believed. Assumes nothing.
use Rattle.std.specs.Prelude.{Result, Ok, Err}
use Rattle.refusals.specs.declared.Refusal.{Refusal}
use Rattle.refusals.specs.Refusals.{number_of}
use Rattle.figures.specs.declared.Terms.{Terms}
use Rattle.reckoner.specs.declared.Years.{Years}
use Rattle.reckoner.specs.declared.Step.{Step as StepFields}
use Rattle.reckoner.specs.Ledger.{Ledger}
use Rattle.reckoner.specs.Calls.{Answer, Step}

-- the ledger of these terms and years
abbrev pub ledger_with : Terms → Years → Ledger
ledger_with terms years = record { given = years.given; terms = terms; state = years.state; figures = years.figures }

-- a refusal by its number
abbrev pub answer_of : Result (Unit {0}) Refusal → Answer
answer_of (Ok x) = Answer.Accepted
answer_of (Err refusal) = Answer.Refused (number_of refusal)

abbrev pub step_of : StepFields → Step
step_of step = record { ledger = step.ledger; answer = answer_of step.answer }
