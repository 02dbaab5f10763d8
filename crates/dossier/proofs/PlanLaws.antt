-- The plan: what is accepted is exactly the encoding of a plan in range, and what it has for a year is in range.
-- Assumes nothing.
use Rattle.std.proofs.Common.{ℕ, zero, suc, ◌+◌, ◌≤◌, ◌≡◌, refl, sym, Bool, true, false, List, [], ◌∷◌, ◌++◌, map, append_assoc}
use Rattle.std.proofs.Common.{append-nil, arith, lt-ltb, ltb-false, ltb, lit<, length, length-append, ⊎_elim}
use mathlib.Core.Option.{Option, none, some}
use Rattle.activity.specs.Records.{Activity}
use Rattle.activity.specs.Activity.{RunInRange}
use Rattle.wire.specs.Bytes.{Bytes, bytes, joined}
use Rattle.dossier.specs.Causes.{◌∈◌}
use Rattle.dossier.specs.Marks.{mark_py, mark_en}
use Rattle.dossier.specs.Plan.{PlanYear, PlanYearInRange, plan_year_bytes, PlanYearsInRange, Plan, PlanInRange, plan_bytes, PlanLent, records_in, records_for}
use Rattle.dossier.specs.Records.{RecordsInRange, bytes_if_any}
use Rattle.dossier.specs.Reader.{Judged, refused, accepted, give, stands, is, upon, if_any, nothing, followed}
use Rattle.dossier.specs.JudgingRecords.{activity_mark}
use Rattle.dossier.specs.JudgingPlan.{plan_year, plan_end, plan_years, plan_fault, renumbered, plan, lent_plan}
use Rattle.wire.proofs.BytesLaws.{bytes_after, length-bytes}
use Rattle.dossier.proofs.ReaderLaws.{mark-yes, mark-only, stands-bytes, nothing-only, chosen}
use Rattle.dossier.proofs.Exact.{Exact, begin-first, field_then, within_then}
use Rattle.dossier.proofs.ExactParts.{Any, last_then, OptionThen, if_any_lem}
use Rattle.dossier.proofs.CauseLaws.{plan_causes}
use Rattle.dossier.proofs.RunLaws.{Over, activities_exact}
use Rattle.dossier.proofs.PlanSteps.{year-read}

-- ---- a year of the plan, and no activity mark after it
abbrev PlanYearThen : ℕ → PlanYear → List ℕ → Type 0
PlanYearThen least p t = PlanYearInRange least p × Over t

pub plan_year_exact : (least : ℕ) → Exact 0 Any (plan_year least) plan_year_bytes (PlanYearThen least)
unfolding plan_year plan_year_bytes joined
plan_year_exact least =
    begin-first _ _ (lit< tt) (λ p t c r. simp (length-append, length-bytes) (omega arith))
    (field_then _ (λ (p : PlanYear). p.year) (λ p t c r. omega arith) (λ v lv.
    within_then _ _ _ _ (λ p t c r. omega (arith, r.0.years)) (λ rv.
    last_then (λ (p : PlanYear). p.activities) (λ l. record { year = v; activities = l }) activities_exact
    (λ p t c r. ((r.0.activities, r.1), sym (λ i. record { year = c.1 i; activities = p.activities })))
    (λ l t k. ((tt, refl), (record { years = rv; activities = k.0 }, k.1), refl)))))

-- it begins with PY
pub plan_year_begins : (kind : ℕ → Bool) (p : PlanYear) (t : List ℕ) → stands kind (plan_year_bytes p ++ t) ≡ kind mark_py
unfolding plan_year_bytes joined
plan_year_begins kind p t = rw append_assoc (stands-bytes kind mark_py _ (lit< tt))

-- ---- the years and EN
plan_end-reads : (years : List PlanYear) → plan_end years (bytes 2 mark_en ++ []) ≡ accepted years []
unfolding plan_end nothing give followed
plan_end-reads years = rw (mark-yes mark_en [] (lit< tt))

plan_end-only : (years : List PlanYear) (s : List ℕ) → Bytes s → (all : Plan) (t : List ℕ) → plan_end years s ≡ accepted all t → (all ≡ years) × (s ≡ bytes 2 mark_en) × (t ≡ [])
unfolding plan_end give followed
plan_end-only years s bs all t q = grind (arith, mark-only, nothing-only, append-nil)

-- the bytes of years and EN
pub plan_years_bytes : List PlanYear → List ℕ
plan_years_bytes l = joined (map plan_year_bytes l) ++ bytes 2 mark_en

years-cons : (p : PlanYear) (l : List PlanYear) (t : List ℕ) → plan_years_bytes (p ∷ l) ++ t ≡ plan_year_bytes p ++ (plan_years_bytes l ++ t)
unfolding plan_years_bytes joined
years-cons p l t = simp append_assoc

years-over : (l : List PlanYear) → Over (plan_years_bytes l ++ [])
unfolding activity_mark
years-over [] = unfold plan_years_bytes joined in stands-bytes activity_mark mark_en [] (lit< tt)
years-over (p ∷ l) = rw years-cons (plan_year_begins activity_mark p _)

-- years in range are read to the last
plan_years-reads : (k least : ℕ) (before l : List PlanYear) → length l ≤ k → PlanYearsInRange least l → plan_years k least before (plan_years_bytes l ++ []) ≡ accepted (before ++ l) []
plan_years-reads zero least before [] n r = unfold plan_years plan_years_bytes joined in rw (append-nil before) (plan_end-reads before)
plan_years-reads zero least before (p ∷ l) n r = absurd (omega arith)
plan_years-reads (suc k) least before [] n r =
    unfold plan_years upon plan_years_bytes joined in rw (append-nil before, stands-bytes (is mark_py) mark_en [] (lit< tt)) (plan_end-reads before)
plan_years-reads (suc k) least before (p ∷ l) n r =
    let here = (plan_year_exact least).reads p (plan_years_bytes l ++ []) tt (r.0, years-over l) in
    grind (arith, years-cons, year-read, plan_year_begins, append_assoc, plan_years-reads k (p.year + 1) (before ++ (p ∷ [])) l (omega arith) r.1)

-- more was read after before, then EN, and nothing follows
record ReadPlan (k least : ℕ) (before : List PlanYear) (s : List ℕ) (all : Plan) (t : List ℕ) : Type 0 where
  more : List PlanYear
  whole : all ≡ before ++ more
  count : length more ≤ k
  each : PlanYearsInRange least more
  over : t ≡ []
  encoded : s ≡ plan_years_bytes more

ended : (k least : ℕ) (before : List PlanYear) (s : List ℕ) → Bytes s → (all : Plan) (t : List ℕ) → plan_end before s ≡ accepted all t → ReadPlan k least before s all t
unfolding plan_years_bytes joined
ended k least before s bs all t q = grind (arith, plan_end-only, append-nil)

one_more_lem : (k least : ℕ) (before : List PlanYear) (s : List ℕ) (p : PlanYear) (u : List ℕ) (all : Plan) (t : List ℕ) → PlanYearInRange least p → s ≡ plan_year_bytes p ++ u
    → ReadPlan k (p.year + 1) (before ++ (p ∷ [])) u all t → ReadPlan (suc k) least before s all t
unfolding plan_years_bytes joined
one_more_lem k least before s p u all t i e r = grind (arith, append_assoc)

plan_years-only : (k least : ℕ) (before : List PlanYear) (s : List ℕ) → Bytes s → (all : Plan) (t : List ℕ) → plan_years k least before s ≡ accepted all t → ReadPlan k least before s all t
unfolding plan_years upon followed
plan_years-only zero least before s bs all t q = ended 0 least before s bs all t q
plan_years-only (suc k) least before s bs all t q =
    ⊎_elim (λ w.
    let (h, p, u, e, r) = w in
    let g = (plan_year_exact least).only s bs (omega arith) p u e in
    one_more_lem k least before s p u all t g.1.0 g.2 (plan_years-only k (p.year + 1) (before ++ (p ∷ [])) u (bytes_after (plan_year_bytes p) u (rw g.2 at bs)) all t r))
    (λ w. ended (suc k) least before s bs all t w.1)
    (chosen (stands (is mark_py) s) (plan_year least s) (λ p. plan_years k (p.year + 1) (before ++ (p ∷ []))) _ q)

-- ---- the plan, and what is lent
-- whatever the number of a refusal
renumbered-only : {A : Type 0} (f : ℕ → ℕ) (j : Judged A) {a : A} {t : List ℕ} → renumbered f j ≡ accepted a t → j ≡ accepted a t
renumbered-only f j e = grind arith

abbrev PlanThen : Plan → List ℕ → Type 0
PlanThen p t = PlanInRange p × (t ≡ [])

plan_exact : Exact 0 Any plan plan_bytes PlanThen
unfolding plan
plan_exact = record {
  reads = λ p t c r. rw r.1 (reads p r.0);
  only = λ s bs h p t q. let r = plan_years-only 20 0 [] s bs p t (renumbered-only _ _ q) in grind (arith, encoded);
}
  where
    encoded : (p : Plan) → plan_years_bytes p ≡ plan_bytes p ++ []
    encoded p = unfold plan_years_bytes plan_bytes joined in simp (append_assoc, append-nil)

    reads : (p : Plan) → PlanInRange p → renumbered plan_fault (plan_years 20 0 [] (plan_bytes p ++ [])) ≡ accepted p []
    reads p r = grind (arith, encoded, append-nil, plan_years-reads 20 0 [] p r.count r.years)

-- bytes are there
abbrev some_bytes : List ℕ → Bool
some_bytes s = ltb 0 (length s)

abbrev pub LentThen : Option Plan → List ℕ → Type 0
LentThen = OptionThen some_bytes plan_bytes PlanThen

pub lent_plan_exact : Exact 0 Any lent_plan (bytes_if_any plan_bytes) LentThen
unfolding lent_plan
lent_plan_exact = if_any_lem some_bytes plan_exact

-- a plan is never of no bytes
plan_bytes_there : (p : Plan) (t : List ℕ) → some_bytes (plan_bytes p ++ t) ≡ true
unfolding plan_bytes joined
plan_bytes_there p t = lt-ltb 0 (length (plan_bytes p ++ t)) (simp (length-append, length-bytes) (omega arith))

pub lent-only : (m : Option Plan) (t : List ℕ) → LentThen m t → PlanLent m × (t ≡ [])
lent-only none [] h = (tt, refl)
lent-only none (b ∷ t) h = absurd (omega (arith, ltb-false 0 (suc (length t)) h))
lent-only (some p) t h = h.0

pub lent_then : (m : Option Plan) → PlanLent m → LentThen m []
lent_then m r = grind (arith, plan_bytes_there)

-- every refusal of it is 12 or 14
pub lent_plan-refused : (s : List ℕ) (n : ℕ) → lent_plan s ≡ refused n → n ∈ plan_causes
unfolding lent_plan if_any plan give followed
lent_plan-refused s n e = grind arith

-- ---- what a plan has for a year is in range
records_in_range : (least : ℕ) (p : Plan) → PlanYearsInRange least p → (year : ℕ) (l : List Activity) → records_in p year ≡ some l → RunInRange l
unfolding records_in
records_in_range least [] r year l e = cc
records_in_range least (p ∷ rest) r year l e = grind (arith, records_in_range (p.year + 1) rest r.1 year l)

-- so are the records that a year takes, its own or the plan's
pub taken_range : (m : Option Plan) → PlanLent m → (year : ℕ) (planned : Bool) (l : List Activity) → RecordsInRange (records_for m year) planned l → RunInRange l
unfolding records_for
taken_range m r year false l h = h
taken_range none r year true l h = cc
taken_range (some p) r year true l h = records_in_range 0 p r.years year l h
