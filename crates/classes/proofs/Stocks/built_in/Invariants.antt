use Rattle.classes.proofs.FactorLaws.{BuiltInBelow}
use Rattle.classes.proofs.Stocks.built_in.Given as goal

abbrev pub invariant-loop-class : goal.invariant-loop-class
invariant-loop-class l = BuiltInBelow l.by_class l.class
