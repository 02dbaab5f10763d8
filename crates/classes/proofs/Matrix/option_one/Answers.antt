use Rattle.std.proofs.Common.{rules}
use Rattle.classes.specs.Matrix.{option_one, option_one_matrix}
use Rattle.classes.proofs.MatrixLaws.{option_one_is_matrix}
use Rattle.classes.proofs.TableLaws.{table_of-is}
use Rattle.classes.proofs.Matrix.option_one.Goals as goal

pub invariant_of-result : goal.invariant_of-result
unfolding option_one_matrix
invariant_of-result c = rw (table_of-is option_one _ (λ i j x row column call. search rules) c.fill_table.ensures) option_one_is_matrix

pub returns : goal.returns
unfolding option_one_matrix
returns c = table_of-is option_one _ (λ i j x row column call. search rules) c.fill_table.ensures
