-- What the functions of this crate use, for their attributes.
-- Assumes nothing.
use Rattle.std.proofs.Common.{append-nil, append_assoc, length-append}
use Rattle.sheet.proofs.SheetLaws.{cast_signed-signed, spaced-last, lines-last}

-- the figure that 64 bits say
pub ruleset signed_figures = (cast_signed-signed)

-- one figure more after those of a report
pub ruleset figures = (append-nil, append_assoc, length-append, spaced-last)

-- one line more after those of a sheet
pub ruleset lines = (append-nil, append_assoc, length-append, lines-last)
