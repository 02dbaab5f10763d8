use Rattle.std.proofs.Common.{rules, refl}
use Rattle.years.proofs.TakenLaws.{part_refused}
use Rattle.years.proofs.read_records.Goals as goal

pub returns-in_err-part-clause-value : goal.returns-in_err-part-clause-value
returns-in_err-part-clause-value c =
    let fails = part_refused _ _ _ _ c.args.reader.now c.in_err-part.field-0.0 refl c.in_err-part.ensures in
    search (rules, fails)
