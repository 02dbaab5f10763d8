use Prim.Native.Nat.{◌-◌}
use lib.ListN.{length}
use Rattle.activities.proofs.RunLaws.{SoFar}
use Rattle.activities.proofs.read_records.Given as goal

abbrev pub invariant-records : goal.invariant-records
invariant-records l = SoFar l.fn.reader l.keys l.reader l.grams l.residues

abbrev pub decreases-records : goal.decreases-records
decreases-records l = 60 - length l.keys
