use Rattle.std.proofs.Common.{◌≡◌, ◌-◌, ◌≤◌, [], length, map, All}
use Rattle.dossier.specs.JudgingPlan.{plan_years}
use Rattle.plans.specs.Answers.{year_of, EndOf, IsPartOf}
use Rattle.plans.proofs.read_years.Given as goal

abbrev pub invariant-loop-reader : goal.invariant-loop-reader
invariant-loop-reader l = record {
  few : length l.years.items ≤ 20;
  goes_on : plan_years 20 0 [] l.initial.reader ≡ plan_years (20 - length l.years.items) l.least (map year_of l.years.items) l.reader;
  rest : EndOf l.initial.reader l.reader;
  parts : All (IsPartOf l.initial.reader) l.years.items;
}

abbrev pub decreases-loop-reader : goal.decreases-loop-reader
decreases-loop-reader l = 20 - length l.years.items
