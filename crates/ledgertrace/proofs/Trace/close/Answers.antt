use Rattle.ledgertrace.proofs.ClosingLaws.{ledger_is, refused_lines, accepted_lines}
use Rattle.ledgertrace.proofs.Trace.close.Goals as goal

pub returns-in-Err-clause-printed : goal.returns-in-Err-clause-printed
returns-in-Err-clause-printed g c =
    let lines = refused_lines _ _ _ c.close-ledger.ensures.step c.in-Err.refusal c.in-Err.is in
    rw lines at (rw (c.close-ledger.ensures.buffer, c.number.ensures) at c.print_closing.ensures)

pub returns-in-Ok-clause-printed : goal.returns-in-Ok-clause-printed
returns-in-Ok-clause-printed g c =
    let lines = accepted_lines _ _ _ c.close-ledger.ensures.step c.in-Ok.is in
    rw lines at (rw (c.close-ledger.ensures.buffer, c.years.ensures.value) at c.print_closing-in-Ok.ensures)

-- the ledger stays
pub returns-in-Err-clause-ledger : goal.returns-in-Err-clause-ledger
returns-in-Err-clause-ledger g c = ledger_is _ _ _ c.close-ledger.ensures.step

pub returns-in-Ok-clause-ledger : goal.returns-in-Ok-clause-ledger
returns-in-Ok-clause-ledger g c = ledger_is _ _ _ c.close-ledger.ensures.step
