-- The printout from what becomes of the dossier's ledger.
-- Assumes nothing.
use Rattle.std.specs.Prelude.{ℕ, List, []}
use Rattle.std.proofs.Common.{◌≡◌, arith}
use Rattle.std.proofs.Math.Option.{none}
use Rattle.wire.specs.Bytes.{Bytes}
use Rattle.dossier.specs.Records.{Dossier}
use Rattle.dossier.specs.Reader.{accepted}
use Rattle.dossier.specs.Judging.{dossier}
use Rattle.dossier.proofs.WellFormed.{dossier-accepted}
use Rattle.dossier.proofs.UnderLaws.{no_plan}
use Rattle.sheet.specs.Sheet.{refusal_of}
use Rattle.reckoner.specs.Calls.{answered, dossier_call, reckon_buffer}
use Rattle.reckoner.proofs.Numbers.{given-all, first-is}
use Rattle.printout.specs.Printout.{printout}
use Rattle.printout.specs.LedgerSheet.{ledger_sheet}

-- the line of its refusal, or the sheet of its ledger
pub printout-answered : (s : List ℕ) → Bytes s → printout s ≡ answered (dossier_call s []).answer refusal_of (ledger_sheet (dossier_call s []).ledger)
unfolding printout dossier_call reckon_buffer ledger_sheet
printout-answered s b =
    let sound = λ (d : Dossier) (rest : List ℕ) (e : dossier none s ≡ accepted d rest). ((dossier-accepted none tt).sound s b d rest e).0 in
    grind (arith, no_plan dossier s, sound, first-is none, given-all none)
