use Rattle.reckoner.proofs.CallLaws.{opened_handed}
use Rattle.reckoner.proofs.Ledger.of_piece.Goals as goal

pub new-requires : goal.new-requires
new-requires c = record { handed_back = opened_handed _ (λ k. (c.type_inv.piece k).fits) c.in_ok-opened.ensures }
