-- A year piece that is read to its end is a year call's.
use Rattle.std.proofs.Common.{◌≡◌, rules}
use native.Mathlib.Omega.{arith}
use Rattle.dossier.specs.Reader.{accepted, give, followed}
use Rattle.dossier.specs.JudgingPlan.{under}
use Rattle.reckoner.specs.Said.{ledger_with}
use Rattle.reckoner.specs.Parts.{given_piece}
use Rattle.reckoner.proofs.Invariant.{handed-kept}
use Rattle.reckoner.proofs.CallLaws.{given_handed}
use Rattle.reckoner.proofs.Ledger.with_piece.Goals as goal

pub give-requires : goal.give-requires
give-requires c = let kept = handed-kept c.self.invariant in record { room = omega (arith, kept.count); small_total = omega (arith, kept.total) }

pub invariant_of-result : goal.invariant_of-result
unfolding under given_piece followed give
invariant_of-result c =
    let read : accepted (ledger_with c.self.inside.terms c.give.new.self) c.give.new.reader
    ≡ under c.args.plan.now (given_piece (ledger_with c.self.inside.terms c.self.inside.years)) c.args.piece.now = search rules in
    given_handed c.self.invariant _ _ (λ k. (c.type_inv.piece k).fits) (λ k. (c.type_inv.plan k).fits) read
