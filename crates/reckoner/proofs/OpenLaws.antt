-- An opening from what it settles: the ledger that it makes.
-- Assumes nothing.
use mathlib.Core.Path.{◌≡◌, ap, sym}
use mathlib.Core.List.{List}
use Prim.Native.Nat.{ℕ}
use native.Mathlib.Omega.{arith}
use Rattle.wire.specs.Bytes.{Bytes}
use Rattle.figures.specs.declared.Terms.{Terms}
use Rattle.figures.specs.declared.State.{State}
use Rattle.dossier.specs.Records.{Opening, OpeningInRange, opening_bytes, Settled, settled}
use Rattle.dossier.specs.Reader.{refused, accepted, followed}
use Rattle.dossier.specs.Judging.{opening, opening_piece}
use Rattle.wire.proofs.BytesLaws.{bytes-before}
use Rattle.dossier.proofs.OpeningLaws.{opening_exact}
use Rattle.dossier.proofs.WellFormed.{opening-accepted}
use Rattle.dossier.proofs.ReaderLaws.{Made, made_no, made-yes}
use Rattle.opening.specs.Opened.{settled_opening, settled_piece}
use Rattle.reckoner.specs.Ledger.{Ledger, new_ledger, opened_ledger}
use Rattle.reckoner.specs.Calls.{Answer, refused_opening, open_judged, open_call, HandedBack, opened}

-- the ledger of what an opening settles
settled-ledger : (terms : Terms) (state : State) (o : Opening) → ◌≡◌ {A = Settled} (record { terms = terms; state = state }) (settled o) → new_ledger terms state ≡ opened_ledger o
unfolding opened_ledger settled
settled-ledger terms state o e = ap (λ (d : Settled). new_ledger d.terms d.state) e

-- ---- an opening piece
pub open_no : (s : List ℕ) (n : ℕ) → refused n ≡ settled_piece s → refused_opening n ≡ open_call s
unfolding open_call settled_piece followed
open_no s n e = ap open_judged (made_no (opening_piece s) settled n e)

pub open-yes : (s : List ℕ) (terms : Terms) (state : State) (rest : List ℕ) → accepted (record { terms = terms; state = state }) rest ≡ settled_piece s
    → (l : Ledger) → l ≡ new_ledger terms state → record { ledger = l; answer = Answer.Accepted } ≡ open_call s
unfolding open_call settled_piece followed
open-yes s terms state rest e l el =
    let m = made-yes (opening_piece s) settled (record { terms = terms; state = state }) rest e in
    rw (el, settled-ledger terms state m.value m.made) (ap open_judged m.judged)

-- an opening piece of records in range is opened
opened-again : (o : Opening) → OpeningInRange o → (open_call (opening_bytes o)).ledger ≡ opened_ledger o
unfolding open_call
opened-again o h = rw (opening-accepted.complete o h)

-- ---- the opening of a dossier
module _ (s : List ℕ) (terms : Terms) (state : State) (rest : List ℕ) (e : accepted (record { terms = terms; state = state }) rest ≡ settled_opening s) where
  pub read : Made (opening s) settled (record { terms = terms; state = state }) rest
  unfolding settled_opening followed
  read = made-yes (opening s) settled (record { terms = terms; state = state }) rest e

  pub read-ledger : new_ledger terms state ≡ opened_ledger read.value
  read-ledger = settled-ledger terms state read.value read.made

  -- an opening piece with the same records makes the same ledger
  pub newly_opened : Bytes s → (l : Ledger) → l ≡ new_ledger terms state → HandedBack l
  newly_opened b l el =
      let o = read.value in
      let x = opening_exact.only s b (omega arith) o rest (sym read.judged) in
      rw (el, read-ledger, ← opened-again o x.1) (opened (opening_bytes o) (bytes-before (opening_bytes o) rest (rw x.2 at b)))
