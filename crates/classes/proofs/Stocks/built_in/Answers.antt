use Rattle.std.proofs.Common.{rules}
use Rattle.classes.proofs.FactorLaws.{built_in_next, built_in_whole, built_in_are_stocks}
use Rattle.classes.proofs.Stocks.built_in.Goals as goal

pub loop-class-preserved : goal.loop-class-preserved
loop-class-preserved c = built_in_next c.loop-class.by_class c.loop-class.class c.carbon_stock.result (search rules) c.loop-class.invariant c.carbon_stock.ensures

pub returns : goal.returns
returns c = built_in_whole c.loop-class.by_class (search rules)

pub invariant_of-result : goal.invariant_of-result
invariant_of-result c = built_in_are_stocks (returns c)
