-- What the functions of this crate use, for their attributes.
-- Assumes nothing.
use Rattle.ledgertrace.proofs.TraceLaws.{closed_fits}

-- how long the report of a ledger is
pub ruleset reports = (closed_fits)
