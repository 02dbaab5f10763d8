use Rattle.std.proofs.Common.{◌∙◌, append-nil}
use Rattle.std.proofs.lemmas.Int.{to_z-of_z}
use Rattle.std.specs.Int.{w64}
use Rattle.wire.specs.Signed.{figures_bytes}
use Rattle.wire.proofs.put_figure.Goals as goal

pub returns : goal.returns
unfolding figures_bytes
returns c = c.put_figures.ensures ∙ rw (to_z-of_z w64 c.args.figure c.ranges.figure, append-nil)
