use mathlib.Core.Path.{◌≡◌}
use lib.ListN.{take}
use Rattle.pairs.specs.Pairs.{keys, is_among}
use Rattle.pairs.proofs.is_among.Given as goal

abbrev pub invariant-loop-j : goal.invariant-loop-j
invariant-loop-j l = l.found ≡ is_among (take l.j (keys l.low l.high)) l.key
