-- Each turn is a step by the tables of the terms: a refused one refuses them all.
use Rattle.std.proofs.Common.{◌≡◌, rules}
use Rattle.std.specs.Prelude.{Err}
use Rattle.reckoner.proofs.GivenLaws.{all-given, one_refused, one_more_lem}
use Rattle.reckoner.proofs.Years.give.Goals as goal

pub returns-in_err-advanced : goal.returns-in_err-advanced
returns-in_err-advanced c =
    let made = c.take_terms.ensures in
    let out : c.from_residual.result ≡ Err c.in_err-advanced.field-0.0 = search rules in
    rw out (one_refused c.loop.invariant c.loop-test.true made.projected made.monitored (rw c.in_err-advanced.was at c.step.ensures.value))

pub loop-preserved : goal.loop-preserved
loop-preserved c =
    let made = c.take_terms.ensures in
    one_more_lem c.loop.invariant c.loop-test.true made.projected made.monitored c.in_ok-advanced.ensures.value c.in_ok-advanced.ensures.left c.in_ok-advanced.ensures.total

pub returns : goal.returns
returns c = all-given c.loop.invariant c.loop-test.false
