-- #105: a plan is refused 14 just where its years are as they should be up to one whose records are refused 14.
-- Assumes nothing.
use Rattle.std.proofs.Common.{ℕ, zero, suc, ◌+◌, ◌<◌, ◌≤◌, ◌≡◌, refl, ◌∙◌, ap, ◌↔◌, List, [], ◌∷◌, ◌++◌, map, append_assoc, arith, lit<, length, take, drop, length-append, ⊎_elim}
use Rattle.activity.specs.Activity.{Within}
use Rattle.wire.specs.Bytes.{Bytes, number, bytes, joined}
use Rattle.dossier.specs.Marks.{mark_py}
use Rattle.dossier.specs.Plan.{PlanYear, PlanYearInRange, plan_year_bytes, PlanYearsInRange}
use Rattle.dossier.specs.Repeated.{YearsRepeat, PlanRepeats}
use Rattle.dossier.specs.Reader.{refused, accepted, give, stands, is, upon, if_any, begin, field, outside, within, followed}
use Rattle.dossier.specs.JudgingRecords.{activity_mark}
use Rattle.dossier.specs.Judging.{activities}
use Rattle.dossier.specs.JudgingPlan.{plan_year, plan_end, plan_years, plan, lent_plan}
use Rattle.wire.proofs.BytesLaws.{length-bytes, bytes_after, bytes_drop, split, take-bytes, drop-bytes}
use Rattle.dossier.proofs.ReaderLaws.{begin-yes, begin-only, within-yes, stands-bytes, faulted}
use Rattle.dossier.proofs.CauseLaws.{not_listed}
use Rattle.dossier.proofs.Causes.{record_causes, begin-causes, plan_end-causes}
use Rattle.dossier.proofs.RunLaws.{Over}
use Rattle.dossier.proofs.PlanSteps.{year-read, year-refused, lent-refused}
use Rattle.dossier.proofs.PlanLaws.{plan_year_exact, plan_year_begins}
use Rattle.dossier.proofs.RepeatedLaws.{repeats-refused, refused-repeats}

-- ---- one year, and years before it
abbrev bare : ℕ → PlanYear
bare year = record { year = year; activities = [] }

abbrev yearly : ℕ → List ℕ → List ℕ
yearly year records = bytes 2 mark_py ++ (bytes 2 year ++ records)

year-repeats : (least year : ℕ) → Within least year 65535 → (records : List ℕ) → activities [] records ≡ refused 14 → plan_year least (yearly year records) ≡ refused 14
unfolding plan_year field followed
year-repeats least year w records e =
    let long : 2 ≤ length (bytes 2 year ++ records) = simp (length-append, length-bytes) (omega arith) in
    let small : year < 65536 = omega (arith, w.most) in
    rw (begin-yes mark_py 2 _ (lit< tt) long, take-bytes 2 year records small, drop-bytes, within-yes _ _ _ _ records w, e)

over : (l : List PlanYear) (year : ℕ) (records : List ℕ) → Over (joined (map plan_year_bytes l) ++ yearly year records)
unfolding joined activity_mark
over [] year records = stands-bytes activity_mark mark_py (bytes 2 year ++ records) (lit< tt)
over (p ∷ l) year records = rw append_assoc (plan_year_begins activity_mark p _)

years_repeat : (k least : ℕ) (before l : List PlanYear) (year : ℕ) → length l < k → PlanYearsInRange least (l ++ (bare year ∷ [])) → (records : List ℕ)
    → activities [] records ≡ refused 14 → plan_years k least before (joined (map plan_year_bytes l) ++ yearly year records) ≡ refused 14
unfolding joined
years_repeat zero least before l year n r records e = absurd (omega arith)
years_repeat (suc k) least before [] year n r records e =
    year-refused least before _ (suc k) k refl (stands-bytes (is mark_py) mark_py (bytes 2 year ++ records) (lit< tt)) 14 (year-repeats least year r.0.years records e)
years_repeat (suc k) least before (p ∷ l) year n r records e =
    let u = joined (map plan_year_bytes l) ++ yearly year records in
    let here = (plan_year_exact least).reads p u tt (r.0, over l year records) in
    let more = years_repeat k (p.year + 1) (before ++ (p ∷ [])) l year (omega arith) r.1 records e in
    rw append_assoc (year-read least before _ (suc k) k refl (plan_year_begins (is mark_py) p u) p u here ∙ more)

-- ---- and back
-- the last of them: its mark and its year are as they should be, and its records are refused
in_records : (least : ℕ) (s : List ℕ) → plan_year least s ≡ refused 14
    → (u : List ℕ) × (begin mark_py 2 s ≡ accepted tt u) × Within least (number (take 2 u)) 65_535 × (activities [] (drop 2 u) ≡ refused 14)
unfolding plan_year field within outside give followed
in_records least s q = grind (arith, not_listed, begin-causes)

last-year : (k least : ℕ) (s : List ℕ) → Bytes s → plan_year least s ≡ refused 14 → YearsRepeat (suc k) least s
last-year k least s bs q =
    let (u, e, w, r) = in_records least s q in
    let (f, h) = begin-only mark_py 2 s bs e in
    let b : Bytes u = bytes_after (bytes 2 mark_py) u (rw f at bs) in
    record {
      years = [];
      year = number (take 2 u);
      in_order = (record { years = w; activities = record { count = omega arith; residue_count = omega arith; each = tt; different = tt } }, tt);
      room = omega arith;
      record_bytes = drop 2 u;
      repeats = refused-repeats (drop 2 u) (bytes_drop 2 u b) r;
      encoded = unfold joined in f ∙ ap (λ (x : List ℕ). bytes 2 mark_py ++ x) (split 2 u b h);
    }

-- one more before them
one_more_lem : (k least : ℕ) (s : List ℕ) (p : PlanYear) (u : List ℕ) → PlanYearInRange least p → s ≡ plan_year_bytes p ++ u → YearsRepeat k (p.year + 1) u → YearsRepeat (suc k) least s
one_more_lem k least s p u i e r = record {
  years = p ∷ r.years;
  year = r.year;
  in_order = (i, r.in_order);
  room = omega (arith, r.room);
  record_bytes = r.record_bytes;
  repeats = r.repeats;
  encoded = unfold joined in e ∙ rw (r.encoded, append_assoc);
}

ends_otherwise : {G : Type 0} (before : List PlanYear) (s : List ℕ) → plan_end before s ≡ refused 14 → G
ends_otherwise before s q = absurd (not_listed 14 record_causes tt (plan_end-causes before s 14 q))

repeating_years : (k least : ℕ) (before : List PlanYear) (s : List ℕ) → Bytes s → plan_years k least before s ≡ refused 14 → YearsRepeat k least s
unfolding plan_years upon followed
repeating_years zero least before s bs q = ends_otherwise before s q
repeating_years (suc k) least before s bs q =
    ⊎_elim (last-year k least s bs) (⊎_elim (λ w.
    let (p, u, e, r) = w in
    let g = (plan_year_exact least).only s bs (omega arith) p u e in
    one_more_lem k least s p u g.1.0 g.2 (repeating_years k (p.year + 1) (before ++ (p ∷ [])) u (bytes_after (plan_year_bytes p) u (rw g.2 at bs)) r))
    (λ e. ends_otherwise before s e))
    (faulted (stands (is mark_py) s) (plan_year least s) (λ p. plan_years k (p.year + 1) (before ++ (p ∷ []))) _ 14 q)

-- ---- what is lent
plan-repeats : (s : List ℕ) → PlanRepeats s → lent_plan s ≡ refused 14
plan-repeats s r =
    let some_bytes : 0 < length s = rw r.encoded (simp (length-append, length-bytes) (omega arith)) in
    let stopped : plan_years 20 0 [] s ≡ refused 14 = rw r.encoded (years_repeat 20 0 [] r.years r.year r.room r.in_order r.record_bytes (repeats-refused _ r.repeats)) in
    lent-refused s some_bytes 14 (rw stopped)

repeats-plan : (s : List ℕ) → Bytes s → lent_plan s ≡ refused 14 → PlanRepeats s
unfolding lent_plan if_any plan give followed
repeats-plan s bs q = grind (arith, repeating_years 20 0 [] s bs)

pub repeats-lent : (s : List ℕ) → Bytes s → (lent_plan s ≡ refused 14) ↔ PlanRepeats s
repeats-lent s bs = (repeats-plan s bs, plan-repeats s)
