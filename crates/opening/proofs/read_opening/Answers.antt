use Rattle.std.proofs.Common.{arith}
use Rattle.opening.proofs.read_opening.Goals as goal

pub invariant_of-terms : goal.invariant_of-terms
invariant_of-terms c = record { start = omega arith; beltstart = omega arith }
