-- A dossier that is read to its end is a dossier call's.
use Rattle.std.proofs.Common.{◌≡◌, rules}
use Rattle.dossier.specs.Reader.{accepted, give, followed}
use Rattle.dossier.specs.JudgingPlan.{under}
use Rattle.reckoner.specs.Ledger.{new_ledger}
use Rattle.reckoner.specs.Said.{ledger_with}
use Rattle.reckoner.specs.Parts.{given_dossier}
use Rattle.reckoner.proofs.CallLaws.{whole_handed}
use Rattle.reckoner.proofs.Ledger.read.Goals as goal

pub invariant_of-result : goal.invariant_of-result
unfolding under given_dossier new_ledger followed give
invariant_of-result c =
    let read : accepted (ledger_with c.in_ok-terms.field-0.terms c.give.new.self) c.read_end.new.reader ≡ under c.args.plan.now given_dossier c.args.dossier.now = search rules in
    whole_handed _ _ (λ k. (c.type_inv.dossier k).fits) (λ k. (c.type_inv.plan k).fits) read
