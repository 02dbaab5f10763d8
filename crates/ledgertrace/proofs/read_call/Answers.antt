use Rattle.std.proofs.Common.{length, take}
use Rattle.console.proofs.FilledLaws.{filled-replicate}
use Rattle.ledgertrace.proofs.read_call.Goals as goal

-- the buffer of a closing
pub returns-then-mark-eq67 : goal.returns-then-mark-eq67
returns-then-mark-eq67 g c = rw (c.fill.ensures.after (λ y same. same)) (filled-replicate (length (take c.in-Some.length c.args.space.now)))
