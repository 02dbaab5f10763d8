-- Demands 2 and 3 of the ledger's calls: one theorem for any opening piece and any list of calls after it.
-- Assumes nothing.
use Rattle.std.proofs.Common.{◌≡◌, ℕ, ◌+◌, ◌*◌, ◌≤◌, ◌<◌, List, [], pos, length, get_or, take, take_all, zero-add, refl, ◌∙◌, ap, sym, arith}
use Rattle.arithmetic.specs.Sum.{sum}
use Rattle.arithmetic.proofs.IntegerSums.{int_sum_cong}
use Rattle.classes.specs.Classes.{greatest_in}
use Rattle.classes.specs.Matrix.{RowsSum}
use Rattle.classes.proofs.FactorLaws.{greatest_factor}
use Rattle.projection.specs.Projection.{opened_region}
use Rattle.figures.specs.declared.Figures.{Figures}
use Rattle.figures.specs.Figures.{no_figures}
use Rattle.figures.specs.Year.{Year}
use Rattle.figures.specs.Reckoning.{record_count}
use Rattle.assurance.specs.Unrounded.{Unrounded, fraction_opened, fraction_after_years}
use Rattle.assurance.proofs.Assurance.{Assured, reckoned-assured}
use Rattle.assurance.proofs.YearLaws.{Reckoned, opened-reckoned}
use Rattle.wire.specs.Bytes.{Bytes}
use Rattle.wire.specs.Signed.{figure_at}
use Rattle.report.specs.Report.{eight, closing}
use Rattle.periods.specs.Periods.{ends_sound, running_total}
use Rattle.dossier.specs.Records.{Opening, OpeningInRange, terms_of, state_of, empty_terms, empty_state, Settled, settled}
use Rattle.dossier.specs.Judging.{opening_piece}
use Rattle.reckoner.specs.Ledger.{Ledger, new_ledger, empty_ledger, opened_ledger, given_years, report}
use Rattle.reckoner.specs.Calls.{open_call, closed_buffer, opened}
use Rattle.reckoner.proofs.RegionKept.{units-total}
use Rattle.reckoner.proofs.Invariant.{LedgerKept, open-either, open_kept, in_use_rows, YearsTaken, years-kept}
use Rattle.reckoner.proofs.Numbers.{given-count}
use Rattle.promises.specs.CallList.{Call, ledger_after, LentBytes, accepted_years, years_after, standing_calls, standing}
use Rattle.promises.specs.Reported.{years_figures, credited_at, RegionReported, Reported}
use Rattle.promises.specs.Lists.{settled_by, ClosingAssured, ListAssured}
use Rattle.promises.proofs.ClosingLaws.{year-figure, last-figure, report_back}
use Rattle.promises.proofs.YearsLaws.{own-figures, given-total, from_nothing, given-project, given-belt, years-reckoned}
use Rattle.promises.proofs.CallsLaws.{calls-handed, brought_when, gives, stands}

-- ---- a ledger as an opening hands it back
pub record Opened (l : Ledger) : Type 0 where
  pub none : l.given ≡ 0
  pub nothing : l.state.total.0 ≡ pos 0
  pub rows : 1 ≤ l.state.left → RowsSum l.terms.matrix
  pub reckoned : Reckoned (greatest_in l.terms.stocks) 0 0 l.terms.start.0 l.terms.beltstart.0 l.state (fraction_opened l.state)

opened_empty : Opened empty_ledger
unfolding empty_ledger new_ledger empty_terms
opened_empty = record {
  none = refl;
  nothing = unfold empty_state in refl;
  rows = λ h. unfold empty_state in absurd (omega arith);
  reckoned = unfold empty_state opened_region sum in opened-reckoned _ empty_state refl refl refl;
}

pub opened-opening : (o : Opening) → OpeningInRange o → Opened (opened_ledger o)
unfolding opened_ledger new_ledger terms_of
opened-opening o h = record {
  none = refl;
  nothing = unfold state_of in refl;
  rows = λ k. in_use_rows o.head.option o.matrix h.matrix;
  reckoned = unfold state_of opened_region in
      rw (← units-total o.project_areas h.project_areas.twelve, ← units-total o.belt_areas h.belt_areas.twelve) (opened-reckoned _ (state_of o) refl refl refl);
}

opening-opened : (piece : List ℕ) → Bytes piece → Opened (open_call piece).ledger
opening-opened = open-either Opened opened_empty opened-opening

-- what it settled
abbrev pub settled_in : Ledger → Settled
settled_in l = record { terms = l.terms; state = l.state }

pub opening-settled : (piece : List ℕ) → settled_in (open_call piece).ledger ≡ settled_by (opening_piece piece)
unfolding open_call empty_ledger opened_ledger new_ledger settled
opening-settled piece = grind arith

-- ---- that ledger given years in range, and closed
module _ (l : Ledger) (o : Opened l) (k : LedgerKept l) (ys : List Year) (in_range : YearsTaken l ys) where
  abbrev after : Ledger
  after = given_years ys l

  abbrev fraction_after : Unrounded
  fraction_after = fraction_after_years l.terms ys (fraction_opened l.state)

  count-is : after.given ≡ length ys
  count-is = omega (arith, given-count ys l, o.none)

  kept-is : LedgerKept after
  kept-is = years-kept l k ys in_range

  assured : Assured (greatest_in l.terms.stocks) (length ys) (record_count ys) l.terms.start.0 l.terms.beltstart.0 after.state fraction_after
  assured = reckoned-assured _ _ _ _ _ _ _ (simp zero-add at (years-reckoned _ ys l (greatest_factor l.terms.stocks) o.rows in_range 0 0 _ _ _ o.reckoned))

  -- bytes in which its report stands
  module _ (closed : List ℕ) (back : (i : ℕ) → i < length (report after) → figure_at closed (8 * i) ≡ get_or (report after) i (pos 0)) where
    -- total, tonnes and balances, at their places
    last : (j : ℕ) → j < 4
        → figure_at closed (64 * length ys + 8 * j) ≡ get_or (closing after.state.total.0 after.state.project.balance.0 after.state.belt.balance.0) j (pos 0)
    last j hj = rw (← count-is) (last-figure after kept-is closed back j hj)

    total_back : figure_at closed (64 * length ys) ≡ after.state.total.0
    total_back = let e : 64 * length ys + 8 * 0 ≡ 64 * length ys = omega arith in ap (figure_at closed) (sym e) ∙ last 0 (omega arith)

    project-reported : RegionReported (length ys) l.terms.start.0 (figure_at closed (64 * length ys + 16)) after.state.project fraction_after.project
    project-reported = record { decoded = last 2 (omega arith); assured = assured.project }

    belt-reported : RegionReported (length ys) l.terms.beltstart.0 (figure_at closed (64 * length ys + 24)) after.state.belt fraction_after.belt
    belt-reported = record { decoded = last 3 (omega arith); assured = assured.belt }

    -- each figure of each year is its own
    year-is : (i j : ℕ) → i < length ys → j < 8
        → figure_at closed (64 * i + 8 * j) ≡ get_or (eight (get_or (years_figures l.terms l.state.project l.state.belt ys) i no_figures)) j (pos 0)
    year-is i j hi hj =
        let e : l.given + i ≡ i = omega (arith, o.none) in
        let own = ap (λ (m : ℕ). get_or after.figures m no_figures) (sym e) ∙ own-figures ys l (omega (arith, o.none, k.twenty, kept-is.count, count-is)) i hi in
        year-figure after kept-is closed back i j (omega (arith, count-is)) hj
        ∙ ap (λ (f : Figures). get_or (eight f) j (pos 0)) own

    -- the total is the sum of the credited figures in the same bytes
    total-is : figure_at closed (64 * length ys) ≡ running_total (credited_at closed) (length ys)
    total-is = total_back ∙ given-total ys l ∙ from_nothing _ _ o.nothing ∙ int_sum_cong (length ys) _ _ (λ i hi. sym (year-is i 7 hi (omega arith)))

    pub reported : Reported (settled_in l) ys closed
    reported = record {
      figures = year-is;
      total = total-is;
      tonnes = rw total_back (last 1 (omega arith));
      assured = rw total_back assured.total;
      project = rw (← given-project ys l) project-reported;
      belt = rw (← given-belt ys l) belt-reported;
    }

  -- closed with a buffer long enough, it stands there
  closing_back : (buffer : List ℕ) → 64 * length ys + 32 ≤ length buffer → (i : ℕ) → i < length (report after) → figure_at (closed_buffer after buffer) (8 * i) ≡ get_or (report after) i (pos 0)
  closing_back buffer h = report_back after kept-is [] buffer (unfold ends_sound in refl) (omega (arith, count-is))

-- ---- after any list of calls
module _ (opening : List ℕ) (b : Bytes opening) where
  closing-assured : (calls : List Call) → LentBytes calls → ClosingAssured opening calls
  unfolding ledger_after years_after
  closing-assured calls c =
      let k = open_kept opening b in
      let g = gives calls (open_call opening).ledger k c in
      let o = opening-opened opening b in
      record {
        handed = calls-handed calls _ c (opened opening b);
        count = rw g.ledger (count-is _ o k _ g.in_range);
        closed = λ buffer h. rw (g.ledger, ← opening-settled opening) (reported _ o k _ g.in_range _ (closing_back _ o k _ g.in_range buffer h));
      }

  -- the calls that stand come to the same
  same-ledger : (calls : List Call) → LentBytes calls → ledger_after opening (standing opening calls) ≡ ledger_after opening calls
  unfolding ledger_after standing
  same-ledger calls c =
      let l = (open_call opening).ledger in
      let k = open_kept opening b in
      let g = gives calls l k c in
      let n = length (standing_calls calls l) in
      let all : take n (standing_calls calls l) ≡ standing_calls calls l = take_all n (standing_calls calls l) (omega arith) in
      let s = stands calls l k c n in
      let years : accepted_years (standing_calls calls l) l ≡ accepted_years calls l = rw all at s.years ∙ take_all n (accepted_years calls l) (omega (arith, g.number)) in
      (gives (standing_calls calls l) l k (rw all at s.lent)).ledger ∙ rw (years, g.ledger)

-- demands 2 and 3
pub demand3 : (opening : List ℕ) → Bytes opening → (calls : List Call) → LentBytes calls → ListAssured opening calls
unfolding standing
demand3 opening b calls c =
    let l = (open_call opening).ledger in
    let k = open_kept opening b in
    let s = stands calls l k c in
    record {
      brought = brought_when;
      after = closing-assured opening b calls c;
      same = same-ledger opening b calls c;
      number = unfold years_after in (gives calls l k c).number;
      first = λ y. unfold years_after in (s y).years;
      after_first = λ y. closing-assured opening b (take y (standing_calls calls l)) (s y).lent;
    }
