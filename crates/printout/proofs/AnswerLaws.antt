-- The printout from the answer of the dossier's call.
-- Assumes nothing.
use Prim.Native.Nat.{ℕ}
use mathlib.Core.Path.{◌≡◌, refl, ◌∙◌, ap, sym}
use mathlib.Core.Option.{none}
use mathlib.Core.List.{List, []}
use native.Mathlib.Omega.{arith}
use lib.ListN.{replicate}
use Rattle.wire.specs.Bytes.{Bytes}
use Rattle.dossier.specs.Records.{Dossier, DossierInRange}
use Rattle.dossier.specs.Reader.{Judged, refused, accepted}
use Rattle.dossier.specs.Judging.{dossier}
use Rattle.dossier.proofs.WellFormed.{dossier-accepted}
use Rattle.dossier.proofs.UnderLaws.{no_plan}
use Rattle.sheet.specs.Sheet.{sheet_of, refusal_of}
use Rattle.reckoner.specs.Ledger.{ledger_of}
use Rattle.reckoner.specs.Calls.{Answer, Step, dossier_judged, dossier_call, reckon_buffer}
use Rattle.reckoner.proofs.Numbers.{given-all, first-is}
use Rattle.printout.specs.Printout.{printed, printout}
use Rattle.printout.specs.LedgerSheet.{ledger_sheet}

-- by what the dossier is judged to be
pub judged_as_lem : (s : List ℕ) (j : Judged Dossier) → dossier none s ≡ j → (dossier_call s [] ≡ dossier_judged j) × (printout s ≡ printed j (reckon_buffer s [] [] (replicate 1312 0)))
unfolding dossier_call printout
judged_as_lem s j e = (ap dossier_judged (no_plan dossier s ∙ e), ap (λ (i : Judged Dossier). printed i (reckon_buffer s [] [] (replicate 1312 0))) e)

module _ (s : List ℕ) (r : Step) (e : r ≡ dossier_call s []) where
  pub refusal_printed : (n : ℕ) → r.answer ≡ Answer.Refused n → refusal_of n ≡ printout s
  refusal_printed n f = go (dossier none s) refl
    where
      go : (j : Judged Dossier) → dossier none s ≡ j → refusal_of n ≡ printout s
      go (refused m) q =
          let k = judged_as_lem s (refused m) q in
          let h : Answer.Refused n ≡ Answer.Refused m = sym f ∙ ap (λ (x : Step). x.answer) (e ∙ k.0) in
          let z : n ≡ m = cc in
          rw z (sym k.1)
      go (accepted d t) q =
          let k = judged_as_lem s (accepted d t) q in
          let h : Answer.Refused n ≡ Answer.Accepted = sym f ∙ ap (λ (x : Step). x.answer) (e ∙ k.0) in
          let z : ◌≡◌ {A = ℕ} 0 1 = cc in
          absurd (omega arith)

  -- the sheet of its ledger is that of the dossier
  pub sheet_is : (d : Dossier) → DossierInRange none d → dossier_call s [] ≡ record { ledger = ledger_of d; answer = Answer.Accepted }
      → ledger_sheet (ledger_of d) ≡ sheet_of d.opening.head.first_year d.opening.head.years (reckon_buffer s [] [] (replicate 1312 0))
  unfolding ledger_sheet reckon_buffer
  sheet_is d h k = rw (k, first-is none d h, given-all none d h)

  pub sheet_printed : Bytes s → r.answer ≡ Answer.Accepted → ledger_sheet r.ledger ≡ printout s
  sheet_printed b f = go (dossier none s) refl
    where
      go : (j : Judged Dossier) → dossier none s ≡ j → ledger_sheet r.ledger ≡ printout s
      go (refused m) q =
          let k = judged_as_lem s (refused m) q in
          let h : Answer.Accepted ≡ Answer.Refused m = sym f ∙ ap (λ (x : Step). x.answer) (e ∙ k.0) in
          let z : ◌≡◌ {A = ℕ} 0 1 = cc in
          absurd (omega arith)
      go (accepted d t) q =
          let k = judged_as_lem s (accepted d t) q in
          let h = ((dossier-accepted none tt).sound s b d t q).0 in
          ap (λ (x : Step). ledger_sheet x.ledger) (e ∙ k.0) ∙ sheet_is d h k.0 ∙ sym k.1
