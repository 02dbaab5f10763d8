-- The tonnes issued, read back from the bytes of a ledger's report with a list of period ends, beside the credited figures there.
-- Assumes nothing.
use Rattle.std.proofs.Common.{◌≡◌, ℕ, ◌+◌, ◌-◌, ◌*◌, ◌^◌, ◌≤◌, ◌<◌, true, List, [], ◌∷◌, map, ℤ, pos, ◌-ℤ◌, length, get_or, take, refl, ◌∙◌, ap, sym, arith}
use Rattle.std.specs.Int.Signed.{mag}
use Rattle.std.proofs.Math.ListN.{length-map}
use Rattle.arithmetic.specs.Sum.{int_sum}
use Rattle.arithmetic.proofs.IntegerSums.{int_sum_cong, int_sum_between, int_sum_mag}
use Rattle.classes.specs.Classes.{greatest_in}
use Rattle.classes.specs.Ranges.{greatest_figure}
use Rattle.figures.specs.Figures.{tonnes_of}
use Rattle.wire.specs.Signed.{figure_at}
use Rattle.periods.specs.Periods.{running_total, credited_in, totals_at, issued_after, issued_tonnes}
use Rattle.periods.proofs.EndsLaws.{ends-judged, sound-inside}
use Rattle.periods.proofs.RunningLaws.{totals-same}
use Rattle.periods.proofs.IssuedLaws.{issued_now_lem}
use Rattle.periods.proofs.TogetherLaws.{together}
use Rattle.reckoner.specs.Ledger.{Ledger, first_year}
use Rattle.reckoner.specs.Calls.{periods_buffer}
use Rattle.reckoner.proofs.Invariant.{LedgerKept}
use Rattle.reckoner.proofs.CloseLaws.{sound}
use Rattle.promises.specs.Reported.{credited_at}
use Rattle.promises.specs.Periods.{issued_at, PeriodsReported}
use Rattle.promises.proofs.ClosingLaws.{year-figure, report_back, issued_back}

-- at the first end nothing was issued before
first-issued : (total : ℤ) → get_or (issued_after (pos 0) (total ∷ [])) 0 (pos 0) ≡ pos (tonnes_of total)
unfolding issued_after
first-issued total = issued_now_lem 0 (tonnes_of total) total refl ∙ ap pos (omega arith)

module _ (l : Ledger) (kept : LedgerKept l) (ends buffer : List ℕ) (fit : sound l ends ≡ true) (h : 64 * l.given + 32 + 8 * length ends ≤ length buffer) where
  abbrev closed : List ℕ
  closed = periods_buffer l ends buffer

  abbrev n : ℕ
  n = l.given

  -- the credited figures and the running totals in the bytes are the ledger's
  credited_back : (k : ℕ) → k < n → credited_at closed k ≡ credited_in l.figures k
  credited_back k q = year-figure l kept closed (report_back l kept ends buffer fit h) k 7 q (omega arith)

  running_back : (y : ℕ) → y ≤ n → running_total (credited_at closed) y ≡ running_total (credited_in l.figures) y
  running_back y q = int_sum_cong y (credited_at closed) (credited_in l.figures) (λ k r. credited_back k (omega arith))

  totals_back : totals_at (first_year l) (credited_at closed) ends ≡ totals_at (first_year l) (credited_in l.figures) ends
  totals_back = totals-same (first_year l) n (running_total (credited_at closed)) (running_total (credited_in l.figures)) running_back ends (sound-inside _ _ ends fit)

  issued-is : (i : ℕ) → i < length ends → issued_at n closed i ≡ get_or (issued_tonnes (first_year l) (credited_at closed) ends) i (pos 0)
  issued-is i q = issued_back l kept ends buffer fit h i q ∙ ap (λ (ts : List ℤ). get_or (issued_after (pos 0) ts) i (pos 0)) (sym totals_back)

  all-together : (k : ℕ) → k ≤ length ends → int_sum k (issued_at n closed) ≡ pos (greatest_in (map tonnes_of (take k (totals_at (first_year l) (credited_at closed) ends))))
  all-together k q =
      int_sum_cong k (issued_at n closed) _ (λ i r. issued-is i (omega arith))
      ∙ together (totals_at (first_year l) (credited_at closed) ends) k (rw (length-map ends _) q)

  -- any stretch of years
  between : (a b : ℕ) → a ≤ b → running_total (credited_at closed) b -ℤ running_total (credited_at closed) a ≡ int_sum (b - a) (λ k. credited_at closed (a + k))
  between a b q = let e : a + (b - a) ≡ b = omega arith in rw e at (int_sum_between a (b - a) (credited_at closed))

  within : (a b : ℕ) → a ≤ b → b ≤ n → mag (running_total (credited_at closed) b -ℤ running_total (credited_at closed) a) < 2 ^ 63
  within a b q r =
      let each : (k : ℕ) → k < b - a → mag (credited_at closed (a + k)) < greatest_figure =
      λ k s. rw (credited_back (a + k) (omega arith)) (kept.figures (a + k) (omega arith)).credited in
      rw (between a b q) (omega (arith, kept.count, int_sum_mag greatest_figure (b - a) (λ k. credited_at closed (a + k)) each))

  -- one end is the last year, and its running total the total
  module _ (total : figure_at closed (64 * n) ≡ running_total (credited_at closed) n) (tonnes : figure_at closed (64 * n + 8) ≡ pos (tonnes_of (figure_at closed (64 * n)))) where
    one_end : (end : ℕ) → ends ≡ end ∷ [] → issued_at n closed 0 ≡ figure_at closed (64 * n + 8)
    one_end end e =
        let last = ((ends-judged (first_year l) n (omega (arith, kept.count)) ends).0 fit).last 0 (ap length (sym e)) in
        let all : end + 1 - first_year l ≡ n = omega (arith, last, ap (λ (es : List ℕ). get_or es 0 0) e) in
        issued-is 0 (omega (arith, ap length e))
        ∙ ap (λ (es : List ℕ). get_or (issued_tonnes (first_year l) (credited_at closed) es) 0 (pos 0)) e
        ∙ first-issued (running_total (credited_at closed) (end + 1 - first_year l))
        ∙ rw (all, ← total) (sym tonnes)

    pub periods-reported : PeriodsReported (first_year l) n ends closed
    periods-reported = record {
      issued = issued-is;
      together = all-together;
      single = one_end;
      stretch = λ a b q r. between a b q;
      held = within;
    }
