use Rattle.std.proofs.Common.{◌≡◌, ℕ, List, [], sym}
use Rattle.dossier.specs.Reader.{accepted, give, end_of_piece, followed}
use Rattle.dossier.specs.Records.{Settled, settled}
use Rattle.dossier.specs.Judging.{opening, opening_piece}
use Rattle.dossier.proofs.ReaderLaws.{made-yes}
use Rattle.dossier.proofs.Refusals.{piece_ends_only}
use Rattle.opening.specs.Opened.{settled_opening, settled_piece}
use Rattle.opening.proofs.read_piece.Goals as goal

whole : (s rest : List ℕ) (due : Settled) → accepted due rest ≡ settled_opening s → accepted tt rest ≡ end_of_piece rest → accepted due [] ≡ settled_piece s
unfolding settled_opening settled_piece opening_piece followed give
whole s rest due read ends =
    let o = made-yes (opening s) settled due rest read in
    let none_left = (piece_ends_only rest (sym ends)).0 in
    rw (← o.judged, ← ends) cc

pub returns : goal.returns
returns c = whole _ _ _ (rw c.new-reader.ensures at c.in_ok-opened.ensures.value) c.in_ok-end_of_piece.ensures
