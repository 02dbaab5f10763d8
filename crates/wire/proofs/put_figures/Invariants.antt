use Rattle.std.proofs.Common.{◌≡◌, take}
use Rattle.std.proofs.lemmas.List.Edits.{sets}
use Rattle.wire.specs.Signed.{figures_bytes}
use Rattle.wire.proofs.put_figures.Given as goal

abbrev pub invariant-loop-k : goal.invariant-loop-k
invariant-loop-k l = l.buffer ≡ sets l.initial.buffer l.at (figures_bytes (take l.k l.figures))
