use Rattle.std.proofs.Common.{◌≡◌, ◌-◌, ◌+◌, map, length, suc, true, rules, refl, arith, length-append, ◌∙◌}
use Rattle.std.proofs.lemmas.List.{map-append}
use Rattle.dossier.specs.Marks.{mark_py}
use Rattle.dossier.specs.JudgingPlan.{plan_year}
use Rattle.dossier.specs.Reader.{accepted, stands, is}
use Rattle.dossier.proofs.PlanSteps.{year-read}
use Rattle.plans.specs.Answers.{year_of}
use Rattle.plans.proofs.PartLaws.{whole_end, further_end, no_parts, one_more_part}
use Rattle.plans.proofs.read_years.Goals as goal

pub loop-reader-init : goal.loop-reader-init
loop-reader-init c = rw c.new-years.ensures (record { few = omega arith; goes_on = refl; rest = whole_end _; parts = no_parts })

pub loop-reader-preserved : goal.loop-reader-preserved
loop-reader-preserved c =
    let years = c.loop-reader.years.items in
    let planned = c.in_ok-planned.planned in
    let said = c.in_ok-planned.ensures in
    let one_less : 20 - length years ≡ suc (20 - (length years + 1)) = search (rules, arith) in
    let here : stands (is mark_py) c.loop-reader.reader ≡ true = search rules in
    let due : c.from-least.result ≡ planned.year = search rules in
    let read : plan_year c.loop-reader.least c.loop-reader.reader ≡ accepted (year_of planned) c.read_planned_year.new.reader = search rules in
    let more = year-read c.loop-reader.least (map year_of years) c.loop-reader.reader _ _ one_less here (year_of planned) _ read in
    rw (c.push.ensures.items, map-append, due)
    (record {
      few = rw length-append (omega arith);
      goes_on = rw length-append (c.loop-reader.invariant.goes_on ∙ more);
      rest = further_end c.loop-reader.invariant.rest said.rest;
      parts = one_more_part years planned c.loop-reader.invariant.parts c.loop-reader.invariant.rest said.part;
    })
