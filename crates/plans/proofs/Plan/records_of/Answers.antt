use Rattle.std.proofs.Common.{◌≡◌, All, Some, None, map, rules}
use Rattle.std.proofs.Math.Option.{some}
use Rattle.std.specs.List.{find}
use Rattle.dossier.specs.Plan.{records_for}
use Rattle.plans.specs.Answers.{year_of, IsPartOf}
use Rattle.plans.proofs.FindLaws.{is_of, records_are, found_one}
use Rattle.plans.proofs.Plan.records_of.Goals as goal

pub returns : goal.returns
unfolding records_for
returns c =
    let years = c.deref.result.now in
    let lent : c.args.self.now.years ≡ some (map year_of years) = search rules in
    let bytes : c.args.self.now.bytes ≡ c.self.inside.bytes.now = search rules in
    let found : find (is_of c.args.year) years ≡ Some c.in_ok-planned.planned.now = search rules in
    let parts : All (IsPartOf c.self.inside.bytes.now) years = search rules in
    rw (lent, bytes, records_are years c.args.year, found) (rw found at (found_one (IsPartOf c.self.inside.bytes.now) (is_of c.args.year) years parts))

pub returns-in_err-planned : goal.returns-in_err-planned
unfolding records_for
returns-in_err-planned c =
    let years = c.deref.result.now in
    let lent : c.args.self.now.years ≡ some (map year_of years) = search rules in
    let found : find (is_of c.args.year) years ≡ None = search rules in
    rw (lent, c.from_residual-in_err-planned.ensures, records_are years c.args.year, found) tt
