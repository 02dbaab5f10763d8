use Rattle.std.proofs.Common.{rules, ◌≡◌, [], drop}
use Rattle.wire.specs.Bytes.{Bytes}
use Rattle.dossier.specs.Marks.{mark_py}
use Rattle.dossier.specs.Reader.{accepted, begin}
use Rattle.dossier.specs.Judging.{activities}
use Rattle.plans.specs.Answers.{records_at}
use Rattle.plans.proofs.RecordsLaws.{records_read}
use Rattle.plans.proofs.PartLaws.{further_end, dropped_end, begun_end, run_end}
use Rattle.plans.proofs.read_planned_year.Goals as goal

-- the records begin after the mark and the year, and what is left follows them
pub returns-clause-part : goal.returns-clause-part
returns-clause-part c =
    let begun : begin mark_py 2 c.args.reader.now ≡ accepted tt c.begin.new.self = search rules in
    let records : c.rest-records.result.now ≡ drop 2 c.begin.new.self = search rules in
    let judged : activities [] c.rest-records.result.now ≡ accepted (records_at c.rest-records.result.now) c.read_run.new.reader = search (rules, records_read) in
    record { holds = record { rest = c.read_run.new.reader; judged = judged }; of_plan = rw records (further_end (begun_end mark_py 2 c.args.reader.now _ begun) (dropped_end 2 c.begin.new.self)) }

pub returns-clause-rest : goal.returns-clause-rest
returns-clause-rest c =
    let are_bytes : Bytes c.rest-records.result.now = search rules in
    let judged : activities [] c.rest-records.result.now ≡ accepted (records_at c.rest-records.result.now) c.read_run.new.reader = search (rules, records_read) in
    further_end (returns-clause-part c).of_plan (run_end _ _ _ are_bytes judged)
