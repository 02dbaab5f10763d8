-- What the functions of this crate use, for their attributes.
-- Assumes nothing.
use Rattle.figures.proofs.FiguresLaws.{tonnes-le}
use Rattle.periods.proofs.EndsLaws.{sound_none, sound_some, end_early, end_late, end-taken, end-last, sound-inside}
use Rattle.arithmetic.proofs.IntegerSums.{int_sum-none}
use Rattle.periods.proofs.RunningLaws.{next_fits}
use Rattle.periods.proofs.IssuedLaws.{issued_now_lem, none-stored}

-- the test of the ends, turn by turn
pub ruleset ends = (sound_none, sound_some, end_early, end_late, end-taken, end-last)

-- that no year comes to nothing, and one more fits
pub ruleset totals = (next_fits, int_sum-none)

-- the tonnes at one end
pub ruleset issues = (issued_now_lem, tonnes-le)

-- that an end is one of the years, and that no ends write nothing
pub ruleset years = (sound-inside, none-stored)
