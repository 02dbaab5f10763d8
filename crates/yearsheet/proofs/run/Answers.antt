use Rattle.std.proofs.Common.{rules}
use Rattle.yearsheet.proofs.Inputs.{printed_whole}
use Rattle.yearsheet.proofs.run.Goals as goal

pub returns-clause-whole : goal.returns-clause-whole
returns-clause-whole g c = printed_whole _ _ _ _ (search rules)
