use Rattle.std.proofs.Common.{rules}
use Rattle.classes.specs.Matrix.{entry}
use Rattle.classes.proofs.TableLaws.{table_of-is}
use Rattle.figures.specs.Figures.{counted_factor}
use Rattle.figures.proofs.fill_counted.Goals as goal

pub returns : goal.returns
unfolding counted_factor
returns c = table_of-is (counted_factor c.args.option (entry c.args.factors.now)) _ (λ i j x row column call. search rules) c.fill_table.ensures
