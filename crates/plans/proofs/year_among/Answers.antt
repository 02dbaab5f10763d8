use Rattle.std.proofs.Common.{eqb, rules, tests}
use Rattle.std.proofs.lemmas.Iterator.{YieldsList-from_slice}
use Rattle.std.proofs.lemmas.Iterator.Search.{find_from_yields_List}
use Rattle.plans.proofs.year_among.Goals as goal

pub returns : goal.returns
returns c = find_from_yields_List (λ planned. eqb planned.year c.args.year) _ _ _ c.find.ensures.ran (YieldsList-from_slice c.args.years.now cc) (λ x b q k. search (rules, tests))
