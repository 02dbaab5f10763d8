-- What the functions of this crate use, for their attributes.
-- Assumes nothing.
use mir.Facts.{to_z-of_z, to_z_pos}
use Rattle.figures.proofs.FiguresLaws.{tonnes-le}
use Rattle.wire.proofs.SignedLaws.{written_none}
use Rattle.report.proofs.ReportLaws.{written-year, written-closing}

-- that the tonnes fit, and that numbers that fit are read as they stand
pub ruleset numbers = (tonnes-le, to_z-of_z, to_z_pos)

-- the report, part by part
pub ruleset parts = (written_none, written-year, written-closing)
