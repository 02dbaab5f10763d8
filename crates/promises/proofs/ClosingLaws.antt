-- The bytes that closing writes, read back.
-- Assumes nothing.
use Rattle.std.proofs.Common.{◌≡◌, ℕ, zero, suc, ◌+◌, ◌-◌, ◌*◌, ◌^◌, ◌≤◌, ◌<◌, true, List, [], ◌∷◌, ◌++◌, All, ℤ, pos, ◌+ℤ◌, length, take, drop, get_or, append_assoc, length-append, length-take-le, take_at, get_or-take, get_or-append-add, refl, ◌∙◌, ap, sym, subst, arith}
use Rattle.std.specs.Int.Signed.{mag}
use Rattle.std.proofs.Math.Seq.{split_at}
use Rattle.std.proofs.Math.ListN.{get_or-append}
use Rattle.std.proofs.lemmas.List.Elements.{All-nil, All-cons, All-head, All-tail, All-append, All-map, All-get_or, All-from_get_or}
use Rattle.figures.specs.declared.Figures.{Figures}
use Rattle.figures.specs.Figures.{tonnes_of, no_figures}
use Rattle.figures.specs.Ranges.{FiguresSmall}
use Rattle.figures.proofs.FiguresLaws.{tonnes-le}
use Rattle.wire.specs.Signed.{figures_bytes, written, figure_at}
use Rattle.wire.proofs.SignedLaws.{length-figures, figures-append, written-figure}
use Rattle.report.specs.Report.{eight, eights, closing, reported}
use Rattle.report.proofs.ReportLaws.{length-years}
use Rattle.periods.specs.Periods.{Inside, running_total, credited_in, issued_after, totals_at, issued_tonnes}
use Rattle.periods.specs.Ranges.{SmallYears}
use Rattle.periods.proofs.EndsLaws.{sound-inside}
use Rattle.periods.proofs.RunningLaws.{running_fits}
use Rattle.periods.proofs.IssuedLaws.{issued_now_lem, count-issued}
use Rattle.reckoner.specs.Ledger.{Ledger, first_year, report}
use Rattle.reckoner.specs.Calls.{periods_report, periods_buffer}
use Rattle.reckoner.proofs.Invariant.{LedgerKept}
use Rattle.reckoner.proofs.CloseLaws.{sound, years-small, report-count, buffer_is}

-- ---- every number of the report fits its eight bytes
abbrev Fits : ℤ → Type 0
Fits z = mag z < 2 ^ 63

abbrev Fit : List ℤ → Type 0
Fit zs = All Fits zs

fit-eight : (f : Figures) → FiguresSmall f → Fit (eight f)
fit-eight f s = grind arith

fit-eights : (fs : List Figures) → ((k : ℕ) → k < length fs → FiguresSmall (get_or fs k no_figures)) → Fit (eights fs)
unfolding eights
fit-eights [] h = All-nil Fits
fit-eights (f ∷ fs) h = All-append Fits (eight f) (eights fs) (fit-eight f (h 0 (omega arith))) (fit-eights fs (λ k l. h (suc k) (omega arith)))

fit-closing : (total : ℤ) (project belt : ℕ) → Fits total → project < 2 ^ 63 → belt < 2 ^ 63 → Fit (closing total project belt)
fit-closing total project belt h p b = grind (arith, tonnes-le)

written_at : (zs : List ℤ) → Fit zs → (buffer : List ℕ) (i : ℕ) → i < length zs → figure_at (written zs buffer) (8 * i) ≡ get_or zs i (pos 0)
written_at zs f buffer i h =
    subst (λ (l : List ℤ). figure_at (written l buffer) (8 * i) ≡ get_or zs i (pos 0)) (sym (split_at zs i (pos 0) h))
    (written-figure (take i zs) (get_or zs i (pos 0)) (drop (suc i) zs) buffer (8 * i) (omega (arith, length-take-le i zs (omega arith))) (All-get_or Fits zs i (pos 0) h f))

-- the j-th of the k-th eight
eights_at : (fs : List Figures) (rest : List ℤ) (k j : ℕ) → k < length fs → j < 8 → get_or (eights fs ++ rest) (8 * k + j) (pos 0) ≡ get_or (eight (get_or fs k no_figures)) j (pos 0)
unfolding eights
eights_at [] rest k j h q = absurd (omega arith)
eights_at (f ∷ fs) rest zero j h q = let e : 8 * 0 + j ≡ j = omega arith in rw (append_assoc (eight f) (eights fs) rest, e) (get_or-append (eight f) (eights fs ++ rest) (pos 0) j q)
eights_at (f ∷ fs) rest (suc k) j h q =
    let e : 8 * suc k + j ≡ 8 + (8 * k + j) = omega arith in
    rw (append_assoc (eight f) (eights fs) rest, e) (get_or-append-add (eight f) (eights fs ++ rest) (8 * k + j) (pos 0) ∙ eights_at fs rest k j (omega arith) q)

-- running totals within the years fit, and so do the tonnes issued at them
fit-totals : (k first : ℕ) (figures : List Figures) → SmallYears k figures → (ends : List ℕ)
    → Inside first k ends → Fit (totals_at first (credited_in figures) ends)
fit-totals k first figures small ends inside =
    All-map Fits (λ end. running_total (credited_in figures) (end + 1 - first)) ends
    (All-from_get_or (λ end. Fits (running_total (credited_in figures) (end + 1 - first))) ends 0
    (λ i q. running_fits k figures small (get_or ends i 0 + 1 - first) (omega (arith, inside i q))))

fit-issued : (before : ℕ) (totals : List ℤ) → Fit totals → Fit (issued_after (pos before) totals)
unfolding issued_after
fit-issued before [] h = All-nil Fits
fit-issued before (total ∷ totals) h =
    let now = tonnes_of total - before in
    subst (λ (issued : ℤ). Fit (issued ∷ issued_after (pos before +ℤ issued) totals)) (sym (issued_now_lem before (tonnes_of total) total refl))
    (All-cons Fits (pos now) _ (omega (arith, tonnes-le total, All-head Fits total totals h)) (fit-issued (before + now) totals (All-tail Fits total totals h)))

-- ---- the report of a ledger that the calls handed back
module _ (l : Ledger) (kept : LedgerKept l) where
  few : length (take l.given l.figures) ≡ l.given
  few = length-take-le l.given l.figures (omega (arith, kept.count, kept.twenty))

  years : List ℤ
  years = eights (take l.given l.figures)

  last : List ℤ
  last = closing l.state.total.0 l.state.project.balance.0 l.state.belt.balance.0

  report-is : report l ≡ years ++ last
  unfolding report reported years last
  report-is = refl

  count : length years ≡ 8 * l.given
  unfolding years
  count = length-years l.given l.figures (omega (arith, kept.count, kept.twenty))

  years-fit : Fit years
  unfolding years
  years-fit = fit-eights (take l.given l.figures) (λ m r.
      let q : m < l.given = omega (arith, few) in
      rw (get_or-take l.given l.figures m no_figures q) (kept.figures m q))

  last_fit : Fit last
  unfolding last
  last_fit = fit-closing _ _ _ (omega (arith, kept.total, kept.count)) (omega (arith, kept.project)) (omega (arith, kept.belt))

  -- ---- bytes in which the report stands: each of its numbers is read back
  module _ (closed : List ℕ) (back : (i : ℕ) → i < length (report l) → figure_at closed (8 * i) ≡ get_or (report l) i (pos 0)) where
    pub year-figure : (k j : ℕ) → k < l.given → j < 8 → figure_at closed (64 * k + 8 * j) ≡ get_or (eight (get_or l.figures k no_figures)) j (pos 0)
    unfolding years
    year-figure k j hk hj =
        let e : 8 * (8 * k + j) ≡ 64 * k + 8 * j = omega arith in
        ap (figure_at closed) (sym e) ∙ back (8 * k + j) (omega (arith, report-count l kept)) ∙ ap (λ (zs : List ℤ). get_or zs (8 * k + j) (pos 0)) report-is
        ∙ eights_at (take l.given l.figures) last k j (omega (arith, few)) hj
        ∙ ap (λ (f : Figures). get_or (eight f) j (pos 0)) (get_or-take l.given l.figures k no_figures hk)

    -- total, tonnes, project balance, belt balance
    pub last-figure : (j : ℕ) → j < 4
        → figure_at closed (64 * l.given + 8 * j) ≡ get_or (closing l.state.total.0 l.state.project.balance.0 l.state.belt.balance.0) j (pos 0)
    unfolding last
    last-figure j hj =
        let e : 8 * (length years + j) ≡ 64 * l.given + 8 * j = omega (arith, count) in
        ap (figure_at closed) (sym e) ∙ back (length years + j) (omega (arith, report-count l kept, count))
        ∙ ap (λ (zs : List ℤ). get_or zs (length years + j) (pos 0)) report-is ∙ get_or-append-add years last j (pos 0)

  -- ---- written into a buffer long enough, with a sound list
  module _ (ends buffer : List ℕ) (fit : sound l ends ≡ true) (h : 64 * l.given + 32 + 8 * length ends ≤ length buffer) where
    issued-fit : Fit (issued_tonnes (first_year l) (credited_in l.figures) ends)
    issued-fit = fit-issued 0 _ (fit-totals l.given (first_year l) l.figures (years-small l kept) ends (sound-inside _ _ ends fit))

    numbers_fit : Fit (periods_report l ends)
    numbers_fit = All-append Fits (report l) _ (rw report-is (All-append Fits years last years-fit last_fit)) issued-fit

    -- the report's bytes stand first, whatever the list
    pub report-first : take (64 * l.given + 32) (periods_buffer l ends buffer) ≡ figures_bytes (report l)
    unfolding written
    report-first =
        let issued = issued_tonnes (first_year l) (credited_in l.figures) ends in
        rw (buffer_is l ends buffer fit h, figures-append (report l) issued, append_assoc (figures_bytes (report l)) (figures_bytes issued) (drop (8 * length (periods_report l ends)) buffer))
        (take_at (figures_bytes (report l)) _ (64 * l.given + 32) (length-figures (report l) ∙ omega (arith, report-count l kept)))

    -- each number is read back from its eight bytes
    pub numbers_back : (i : ℕ) → i < length (periods_report l ends) → figure_at (periods_buffer l ends buffer) (8 * i) ≡ get_or (periods_report l ends) i (pos 0)
    numbers_back i q = rw (buffer_is l ends buffer fit h) (written_at (periods_report l ends) numbers_fit buffer i q)

    -- those of the report, and after them the tonnes issued
    pub report_back : (i : ℕ) → i < length (report l) → figure_at (periods_buffer l ends buffer) (8 * i) ≡ get_or (report l) i (pos 0)
    report_back i q = numbers_back i (simp length-append (omega arith)) ∙ get_or-append (report l) _ (pos 0) i q

    pub issued_back : (i : ℕ) → i < length ends
        → figure_at (periods_buffer l ends buffer) (64 * l.given + 32 + 8 * i) ≡ get_or (issued_tonnes (first_year l) (credited_in l.figures) ends) i (pos 0)
    issued_back i q =
        let issued = issued_tonnes (first_year l) (credited_in l.figures) ends in
        let e : 8 * (length (report l) + i) ≡ 64 * l.given + 32 + 8 * i = omega (arith, report-count l kept) in
        ap (figure_at (periods_buffer l ends buffer)) (sym e)
        ∙ numbers_back (length (report l) + i) (simp length-append (omega (arith, count-issued (first_year l) (credited_in l.figures) ends)))
        ∙ get_or-append-add (report l) issued i (pos 0)

-- figures that fit, one after the other and each by its place
fit_append : (xs ys : List ℤ) → Fit xs → Fit ys → Fit (xs ++ ys)
fit_append xs ys h k = All-append Fits xs ys h k

fit_at : (zs : List ℤ) → Fit zs → (i : ℕ) → i < length zs → mag (get_or zs i (pos 0)) < 2 ^ 63
fit_at zs h i l = All-get_or Fits zs i (pos 0) l h

fit_four : (a b c d : ℤ) → mag a < 2 ^ 63 → mag b < 2 ^ 63 → mag c < 2 ^ 63 → mag d < 2 ^ 63 → Fit (a ∷ b ∷ c ∷ d ∷ [])
fit_four a b c d p q r s = All-cons Fits a (b ∷ c ∷ d ∷ []) p (All-cons Fits b (c ∷ d ∷ []) q (All-cons Fits c (d ∷ []) r (All-cons Fits d [] s (All-nil Fits))))
