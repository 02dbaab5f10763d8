use Rattle.std.proofs.Common.{rules, refl}
use Rattle.yearsheet.proofs.InputLaws.{read_more}
use Rattle.yearsheet.proofs.read_input.Goals as goal

pub loop-preserved : goal.loop-preserved
loop-preserved g c = record {
  within = search rules;
  so_far = read_more _ _ _ _ _ _ _ _ refl c.loop.invariant.within (rw c.in-Some.is at c.in_ok-count.ensures.within) c.loop.invariant.so_far (rw c.in-Some.is at c.in_ok-count.ensures.bytes);
}
