use Rattle.std.proofs.Common.{rules}
use Rattle.activities.proofs.EndLaws.{two_equal, none_equal, sum_small}
use Rattle.activities.proofs.read_run.Goals as goal

pub returns-then-any_equal-clause-value : goal.returns-then-any_equal-clause-value
returns-then-any_equal-clause-value c = two_equal (rw (c.new-ahead.ensures, c.rest.ensures) at c.read_records-grams.ensures) (cc)

pub returns-in_err-grams-clause-value : goal.returns-in_err-grams-clause-value
returns-in_err-grams-clause-value c =
    let fails = none_equal (rw (c.new-ahead.ensures, c.rest.ensures) at c.read_records-grams.ensures) (cc) in
    search (rules, fails)

pub returns-clause-value : goal.returns-clause-value
returns-clause-value c =
    let read = none_equal (rw (c.new-ahead.ensures, c.rest.ensures) at c.read_records-grams.ensures) (cc) in
    search (rules, read)

pub returns-clause-small : goal.returns-clause-small
returns-clause-small c =
    let small = sum_small c.read_records-grams.ensures in
    search (rules, small)
