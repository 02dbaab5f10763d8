use Rattle.std.proofs.Common.{rules}
use Rattle.classes.specs.Classes.{emission_factor}
use Rattle.classes.proofs.TableLaws.{table_of-is}
use Rattle.classes.proofs.fill_factors.Goals as goal

pub returns : goal.returns
returns c = table_of-is (emission_factor c.args.stocks.now) _ (λ i j x row column call. search rules) c.fill_table.ensures
