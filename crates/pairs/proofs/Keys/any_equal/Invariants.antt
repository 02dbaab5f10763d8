use lib.ListN.{take}
use Rattle.pairs.specs.Pairs.{keys}
use Rattle.pairs.proofs.PairsLaws.{Passed}
use Rattle.pairs.proofs.Keys.any_equal.Given as goal

abbrev pub invariant-loop-k : goal.invariant-loop-k
invariant-loop-k l = Passed l.flags (take l.k (keys l.low l.high))
