-- What the functions of this crate use, for their attributes.
-- Assumes nothing.
use Rattle.std.proofs.Common.{length-drop}
use Rattle.dossier.proofs.Refusals.{begin_short, begin_other, begin_cut, lone_byte, beyond_piece, piece_ends}
use Rattle.dossier.proofs.ReaderLaws.{stands_short, stands_here}

-- how a piece ends
pub ruleset ends = (lone_byte, beyond_piece, piece_ends, length-drop)

-- whether a mark stands
pub ruleset marks = (stands_short, stands_here, length-drop)

-- how a record begins
pub ruleset beginnings = (begin_short, begin_other, begin_cut, length-drop)
