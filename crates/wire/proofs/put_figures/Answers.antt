use Rattle.std.proofs.Common.{◌≡◌, get_or, refl, ◌∙◌, arith, rules}
use Rattle.std.specs.Prelude.{pos}
use Rattle.std.specs.Int.{w64, cast_unsigned, to_be_bytes}
use Rattle.wire.specs.Signed.{figures_bytes}
use Rattle.wire.proofs.SignedLaws.{figure_to_be, stored_next}
use Rattle.wire.proofs.put_figures.Goals as goal

pub loop-k-init : goal.loop-k-init
unfolding figures_bytes
loop-k-init c = refl

pub loop-k-preserved : goal.loop-k-preserved
loop-k-preserved c =
    let figures = c.args.figures.now in
    let k = c.loop-k.k in
    let bytes : c.to_be_bytes.result ≡ to_be_bytes w64 (cast_unsigned w64 (get_or figures k (pos 0))) = search rules in
    rw (c.copy_from_slice.ensures.after ∙ bytes ∙ figure_to_be (get_or figures k (pos 0)), c.loop-k.invariant)
    (stored_next figures k c.args.buffer.now c.args.at c.loop-k-test.true (omega arith))
