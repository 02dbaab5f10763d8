use Rattle.std.proofs.Common.{◌==◌, rules, tests}
use Rattle.std.proofs.lemmas.Iterator.{YieldsList-from_slice}
use Rattle.std.proofs.lemmas.Iterator.Adapters.{YieldsList-from_skip}
use Rattle.std.proofs.lemmas.Iterator.Search.{all_from_yields_List}
use Rattle.console.proofs.is_filled.Goals as goal

pub returns : goal.returns
returns c =
    let rest = YieldsList-from_skip {s = c.skip.result} c.args.from (YieldsList-from_slice c.args.buffer.now cc) c.skip.ensures.count in
    all_from_yields_List (λ byte. byte == 165) _ _ _ c.all.ensures.ran rest (λ x b q k. search (rules, tests))
