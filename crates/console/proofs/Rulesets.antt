-- What the functions of this crate use, for their attributes.
-- Assumes nothing.
use Rattle.std.proofs.lemmas.Nat.{be_bytes_4}

-- the four bytes of a number
pub ruleset fields = (be_bytes_4)
