-- A dossier is its opening and its years, opened, given and closed; demands 2 and 3 of it.
-- Assumes nothing.
use Rattle.std.proofs.Common.{◌≡◌, ℕ, ◌+◌, ◌*◌, ◌≤◌, true, List, [], ◌∷◌, ◌++◌, map, length, take, replicate, append_assoc, append-nil, refl, ◌∙◌, ap, sym, arith}
use mathlib.Core.Option.{Option}
use Rattle.figures.specs.Year.{Year}
use Rattle.wire.specs.Bytes.{Bytes, bytes, joined}
use Rattle.wire.specs.Signed.{figures_bytes}
use Rattle.wire.proofs.BytesLaws.{bytes-before, bytes_after}
use Rattle.dossier.specs.Marks.{mark_en}
use Rattle.dossier.specs.Plan.{Plan}
use Rattle.dossier.specs.Records.{opening_bytes, settled, first_due, next, year_bytes, Dossier, DossierInRange, dossier_bytes, WellFormedPlan}
use Rattle.dossier.specs.Reader.{accepted}
use Rattle.dossier.specs.Judging.{dossier, year_piece}
use Rattle.dossier.specs.JudgingPlan.{lent_plan, under}
use Rattle.dossier.proofs.WellFormed.{opening-accepted, plan-accepted}
use Rattle.dossier.proofs.UnderLaws.{under-accepted, no_plan}
use Rattle.dossier.proofs.Pieces.{YearPieces, years-given}
use Rattle.dossier.proofs.DossierLaws.{room-opening}
use Rattle.periods.specs.Periods.{EndsInRange, ends_sound}
use Rattle.periods.proofs.EndsLaws.{ends-judged}
use Rattle.reckoner.specs.Ledger.{Ledger, new_ledger, opened_ledger, due_of, given_year, given_years, ledger_of, report}
use Rattle.reckoner.specs.Calls.{Answer, open_call, periods_buffer, dossier_call, reckon_says, reckon_number, reckon_buffer}
use Rattle.reckoner.proofs.Invariant.{dossier-taken, ledger-kept, LedgerKept, opened-kept, YearsTaken}
use Rattle.reckoner.proofs.CloseLaws.{sound}
use Rattle.reckoner.proofs.Numbers.{judged_as_lem, given-all, first-is, sound-years, number-zero}
use Rattle.sheet.specs.Sheet.{sheet_of}
use Rattle.printout.specs.Printout.{printout}
use Rattle.promises.specs.CallList.{Call, after_calls, ledger_after, LentBytes, accepted_years, years_after, standing_calls, standing}
use Rattle.promises.specs.Reported.{Reported}
use Rattle.promises.specs.Periods.{PeriodsReported}
use Rattle.promises.specs.Lists.{ListAssured}
use Rattle.promises.specs.Dossiers.{SameInPieces, year_calls, ReckoningAssured, DossierAssured, CallAssured}
use Rattle.promises.proofs.ClosingLaws.{report-first, report_back}
use Rattle.promises.proofs.PeriodsLaws.{periods-reported}
use Rattle.promises.proofs.CallsLaws.{Taken, taken}
use Rattle.promises.proofs.Demand3.{opened-opening, reported, demand3}

-- years that are accepted one after the other: they are brought, their calls stand, and the ledger is given them
record Each (planned : List ℕ) (ys : List Year) (l : Ledger) : Type 0 where
  years : accepted_years (year_calls planned ys) l ≡ ys
  stand : standing_calls (year_calls planned ys) l ≡ year_calls planned ys
  ledger : after_calls (year_calls planned ys) l ≡ given_years ys l

-- one year more
each_more : (planned : List ℕ) (y : Year) (ys : List Year) (l : Ledger) → Taken (year_bytes y) planned l y → Each planned ys (given_year y l) → Each planned (y ∷ ys) l
unfolding accepted_years standing_calls after_calls given_years
each_more planned y ys l t i = record {
  years = rw (t.brought, t.after, i.years);
  stand = rw (t.stand, t.after, i.stand);
  ledger = ap (λ (m : Ledger). after_calls (year_calls planned ys) m) t.after ∙ i.ledger;
}

each : (planned : List ℕ) (p : Option Plan) (rest : List ℕ) → lent_plan planned ≡ accepted p rest → (ys : List Year) (l : Ledger) → YearPieces (due_of p l) ys → Each planned ys l
unfolding accepted_years standing_calls after_calls given_years
each planned p rest e [] l h = record { years = refl; stand = refl; ledger = refl }
each planned p rest e (y ∷ ys) l h =
    let judged = under-accepted (λ p. year_piece (due_of p l)) (year_bytes y) planned p rest e ∙ h.0 in
    each_more planned y ys l (taken (year_bytes y) planned l y [] judged) (each planned p rest e ys (given_year y l) (unfold given_year due_of next in h.1))

lent-years : (planned : List ℕ) → Bytes planned → (ys : List Year) (t : List ℕ) → Bytes (joined (map year_bytes ys) ++ t) → LentBytes (year_calls planned ys)
lent-years planned bp [] t b = tt
lent-years planned bp (y ∷ ys) t b =
    let c : Bytes (year_bytes y ++ (joined (map year_bytes ys) ++ t)) = unfold joined in rw append_assoc at b in
    ((bytes-before (year_bytes y) _ c, bp), lent-years planned bp ys t (bytes_after (year_bytes y) _ c))

-- ---- a dossier in range, under a plan
module _ (s planned : List ℕ) (b : Bytes s) (bp : Bytes planned) (p : Option Plan) (w : WellFormedPlan p planned) (d : Dossier) (h : DossierInRange p d) (e : s ≡ dossier_bytes d) where
  abbrev first : List ℕ
  first = opening_bytes d.opening

  abbrev calls : List Call
  calls = year_calls planned d.years

  cut : s ≡ first ++ (joined (map year_bytes d.years) ++ bytes 2 mark_en)
  unfolding dossier_bytes joined
  cut = e ∙ rw append-nil

  lent : Bytes (first ++ (joined (map year_bytes d.years) ++ bytes 2 mark_en))
  lent = rw cut at b

  plan-judged : lent_plan planned ≡ accepted p []
  plan-judged = ap lent_plan w.1 ∙ plan-accepted.complete p w.0

  opened-is : open_call first ≡ record { ledger = opened_ledger d.opening; answer = Answer.Accepted }
  unfolding open_call
  opened-is = rw (opening-accepted.complete d.opening h.opening)

  in_turn : Each planned d.years (opened_ledger d.opening)
  in_turn = each planned p [] plan-judged d.years (opened_ledger d.opening)
      (unfold opened_ledger new_ledger due_of first_due in
      years-given _ (first_due p d.opening) (room-opening p w.0 d.opening h.opening _ (omega (arith, h.count))) d.years refl h.years)

  ledger-is : ledger_after first calls ≡ ledger_of d
  unfolding ledger_after ledger_of
  ledger-is = rw opened-is in_turn.ledger

  judged : under planned dossier s ≡ accepted d []
  judged = judged_as_lem s planned p w d h e

  whole_is : dossier_call s planned ≡ record { ledger = ledger_of d; answer = Answer.Accepted }
  unfolding dossier_call
  whole_is = rw judged

  same : SameInPieces s planned first calls
  unfolding reckon_says reckon_buffer
  same = record { says = λ size. rw (whole_is, ledger-is); buffers = λ buffer. rw (whole_is, ledger-is) }

  list : ListAssured first calls
  list = demand3 first (bytes-before first _ lent) calls (lent-years planned bp d.years (bytes 2 mark_en) (bytes_after first _ lent))

  years_are : years_after first calls ≡ d.years
  unfolding years_after
  years_are = rw opened-is in_turn.years

  sheet_printed : planned ≡ [] → printout s ≡ sheet_of d.opening.head.first_year (length d.years) (reckon_buffer s [] [] (replicate 1312 0))
  unfolding printout
  sheet_printed z = grind (arith, judged, no_plan dossier s, h.count)

  -- ---- with a list of period ends
  taken-all : YearsTaken (opened_ledger d.opening) d.years
  taken-all = dossier-taken p w.0 d h

  own-kept : LedgerKept (ledger_of d)
  own-kept = ledger-kept p w.0 d h

  count-all : (ledger_of d).given ≡ length d.years
  count-all = given-all p d h ∙ sym h.count

  no_ends : EndsInRange d.opening.head.first_year (length d.years) []
  no_ends = let few : length d.years ≤ 20 = omega (arith, h.count, h.opening.head.count.most) in (ends-judged _ _ few []).0 (unfold ends_sound in refl)

  module _ (ends buffer : List ℕ) (fit : EndsInRange d.opening.head.first_year (length d.years) ends) (room : 64 * length d.years + 32 + 8 * length ends ≤ length buffer) where
    is-sound : sound (ledger_of d) ends ≡ true
    is-sound = sound-years p d h ends ∙ (ends-judged _ _ h.opening.head.count.most ends).1 (rw h.count at fit)

    enough : 64 * (ledger_of d).given + 32 + 8 * length ends ≤ length buffer
    enough = omega (arith, count-all)

    own_buffer : reckon_buffer s planned ends buffer ≡ periods_buffer (ledger_of d) ends buffer
    unfolding reckon_buffer
    own_buffer = rw whole_is

    own-reported : Reported (settled d.opening) d.years (periods_buffer (ledger_of d) ends buffer)
    unfolding ledger_of
    own-reported =
        unfold opened_ledger new_ledger settled in
        reported (opened_ledger d.opening) (opened-opening d.opening h.opening) (opened-kept d.opening h.opening) d.years taken-all
        _ (report_back (ledger_of d) own-kept ends buffer is-sound enough)

    own-periods : PeriodsReported d.opening.head.first_year (length d.years) ends (periods_buffer (ledger_of d) ends buffer)
    unfolding ledger_of given_years
    own-periods =
        rw (first-is p d h, count-all) at
        (periods-reported (ledger_of d) own-kept ends buffer is-sound enough (rw (← count-all) at own-reported.total) (rw (← count-all) at own-reported.tonnes))

    own_first : take (64 * length d.years + 32) (reckon_buffer s planned ends buffer) ≡ figures_bytes (report (ledger_of d))
    own_first = rw (own_buffer, ← count-all) (report-first (ledger_of d) own-kept ends buffer is-sound enough)

  own-assured : (ends : List ℕ) → EndsInRange d.opening.head.first_year (length d.years) ends
      → (buffer : List ℕ) → 64 * length d.years + 32 + 8 * length ends ≤ length buffer → ReckoningAssured s planned d ends buffer
  own-assured ends fit buffer room = record {
    reported = rw (own_buffer ends buffer fit room) (own-reported ends buffer fit room);
    periods = rw (own_buffer ends buffer fit room) (own-periods ends buffer fit room);
    without = own_first ends buffer fit room ∙ sym (own_first [] buffer no_ends (omega arith));
  }

  pub dossier-assured : DossierAssured s planned d
  dossier-assured = record {
    pieces = cut;
    opened = rw opened-is;
    stand = unfold standing in rw opened-is in_turn.stand;
    brought = years_are;
    list = list;
    same = same;
    own = own-assured;
    printed = sheet_printed;
  }

-- from the number that the whole reckoning answers
pub accepted-assured : (s planned ends : List ℕ) → Bytes s → Bytes planned → (size : ℕ) → reckon_number s planned ends size ≡ 0 → CallAssured s planned ends size
accepted-assured s planned ends b bp size z =
    let (p, w, (d, r, e, fit, enough)) = (number-zero s planned ends b bp size).1 z in
    record {
      lent = p;
      well_formed = w;
      dossier = d;
      in_range = r;
      encoded = e;
      in_years = rw r.count fit;
      enough = omega (arith, r.count, enough);
      assured = dossier-assured s planned b bp p w d r e;
    }
