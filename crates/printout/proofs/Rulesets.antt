-- What the functions of this crate use, for their attributes.
-- Assumes nothing.
use Rattle.printout.proofs.PrintoutLaws.{printout-answered}

pub ruleset printed = (printout-answered)
