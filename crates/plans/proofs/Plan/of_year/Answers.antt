use Rattle.std.proofs.Common.{◌≡◌, [], drop}
use Rattle.plans.proofs.PartLaws.{whole_end, dropped_end, no_parts, one_more_part}
use Rattle.plans.proofs.Plan.of_year.Goals as goal

-- the one part is what is left of the bytes from the place on
pub invariant_of-result : goal.invariant_of-result
invariant_of-result c =
    let part : c.split_at.result.1.now ≡ drop c.args.from c.args.bytes.now = c.split_at.ensures.back in
    rw (c.push.ensures.items, c.new-years.ensures)
    (one_more_part [] (record { year = c.args.year; records = c.split_at.result.1 }) no_parts (whole_end _) (rw part (record { holds = c.requires.found; of_plan = dropped_end c.args.from c.args.bytes.now })))
