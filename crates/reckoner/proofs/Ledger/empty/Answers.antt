-- An opening of no bytes hands it back.
use mathlib.Core.Path.{refl, ◌∙◌}
use Rattle.dossier.specs.Records.{empty_terms, empty_state}
use Rattle.reckoner.specs.Ledger.{empty_ledger}
use Rattle.reckoner.proofs.CallLaws.{empty_handed}
use Rattle.reckoner.proofs.Ledger.empty.Goals as goal

pub new-requires : goal.new-requires
unfolding empty_ledger empty_terms empty_state
new-requires c = record { handed_back = rw (c.none.ensures, c.none-2.ensures) empty_handed }

pub returns : goal.returns
unfolding empty_ledger empty_terms empty_state
returns c = c.new.ensures ∙ rw (c.none.ensures, c.none-2.ensures) refl
