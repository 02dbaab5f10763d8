use Rattle.std.proofs.Common.{◌+◌, ◌-◌, ◌^◌, ◌<◌, get_or, ◌∙◌, ap, pos, arith}
use Rattle.std.proofs.lemmas.List.{take_all}
use Rattle.periods.specs.Periods.{credited_in, issued_now, issued_tonnes}
use Rattle.periods.specs.Ranges.{kept_at}
use Rattle.periods.proofs.EndsLaws.{sound-inside}
use Rattle.periods.proofs.IssuedLaws.{count-issued, issued_turn, stored_turn}
use Rattle.periods.proofs.write_issued.Goals as goal

pub loop-i-preserved : goal.loop-i-preserved
loop-i-preserved c =
    let first = c.args.first in
    let ends = c.args.ends.now in
    let credited = credited_in c.args.figures.now in
    let done = c.loop-i.invariant in
    let now = c.issued_now-tonnes in
    let (later, early) = sound-inside first _ ends c.requires.sound_ends c.loop-i.i c.loop-i-test.true in
    let years = get_or ends c.loop-i.i 0 + 1 - first in
    let total = ap (λ end. kept_at c.running_totals-totals.result (end + 1 - first)) c.from.ensures ∙ c.running_totals-totals.ensures.kept.at years (omega arith) in
    let small = c.running_totals-totals.ensures.small years (omega arith) in
    let all = issued_tonnes first credited ends in
    let (taken, rest) = issued_turn _ ends c.loop-i.i _ _ all c.loop-i-test.true done.rest (now.ensures.value ∙ ap (issued_now (pos c.loop-i.before)) total) in
    let issued : c.loop-i.before + now.result < 2 ^ 63 = omega (arith, small) in
    record {
      issued = issued;
      stored = stored_turn all c.loop-i.i now.result _ _ _ _ (omega (arith, count-issued first credited ends)) done.stored (omega (arith, issued)) taken c.put_figure.ensures;
      rest = rest;
    }

pub returns : goal.returns
returns c =
    let credited = credited_in c.args.figures.now in
    let all = issued_tonnes c.args.first credited c.args.ends.now in
    rw (take_all c.loop-i.i all (omega (arith, count-issued c.args.first credited c.args.ends.now))) at c.loop-i.invariant.stored
