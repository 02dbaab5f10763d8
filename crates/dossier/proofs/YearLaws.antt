-- A year: what is accepted is exactly the encoding of the year that is due.
-- Assumes nothing.
use Rattle.std.proofs.Common.{ℕ, ◌<◌, ◌≤◌, ◌≡◌, refl, ◌∙◌, ap, sym, Bool, true, false, cond, List, [], ◌∷◌, ◌++◌, append_assoc, append-nil, arith, eqb-true, ne_eqb, eqb, lit<, length-append}
use mathlib.Core.Option.{Option}
use borrow.Author.Tests.{eqb-false}
use Rattle.classes.specs.Calendar.{days_in_year}
use Rattle.classes.proofs.CalendarLaws.{days_range}
use Rattle.activity.specs.Records.{Activity}
use Rattle.activity.specs.Activity.{Within, RunInRange}
use Rattle.figures.specs.Year.{Year}
use Rattle.figures.specs.Figures.{small_activity}
use Rattle.wire.specs.Bytes.{Bytes, bytes, joined}
use Rattle.dossier.specs.Marks.{mark_yr, mark_cp, mark_cd}
use Rattle.dossier.specs.Plan.{Plan, records_for}
use Rattle.dossier.specs.Records.{Due, ConversionsInRange, conversions_bytes, RecordsInRange, records_bytes, figures_for, YearInRange, year_bytes}
use Rattle.dossier.specs.Claims.{DueInRange}
use Rattle.dossier.specs.Reader.{refused, accepted, begin, stands, followed}
use Rattle.dossier.specs.Judging.{taken, none_left, year_records, year_left, allowed, year}
use Rattle.wire.proofs.BytesLaws.{length-bytes}
use Rattle.dossier.proofs.ReaderLaws.{no, step, begin-only, within-yes, equal-yes, stands-bytes}
use Rattle.dossier.proofs.Refusals.{none_left_lem, left_for, left-refused}
use Rattle.dossier.proofs.YearRefusals.{year_record, year-fields}
use Rattle.dossier.proofs.Exact.{Exact, begin-first, field_then, within_then, equal_then}
use Rattle.dossier.proofs.ExactParts.{Any, sub_then, last_then, checked, restated}
use Rattle.dossier.proofs.RecordLaws.{conversions_exact}
use Rattle.dossier.proofs.ResidueLaws.{third_activity}
use Rattle.dossier.proofs.RunLaws.{TooMany, too_many, run_bytes, activities_continue}
use Rattle.dossier.proofs.TakenLaws.{Follows, run-not-planned, taken_own, taken_exact}

-- a year in range, and what may follow its records
abbrev pub YearThen : Due → Year → List ℕ → Type 0
YearThen due y t = YearInRange due y × Follows y.planned y.activities t

-- YR, CP and CD in range
pub record TablesInRange (due : Due) (y : Year) : Type 0 where
  pub left : 1 ≤ due.state.left
  pub year : y.year ≡ due.state.year
  pub days : Within 1 y.operating_days (days_in_year y.year)
  pub conversions : ConversionsInRange due.terms.start.0 y.conversions
  pub belt_conversions : ConversionsInRange due.terms.beltstart.0 y.belt_conversions

pub tables-of : (due : Due) (y : Year) → YearInRange due y → TablesInRange due y
tables-of due y p = search

-- and the records, whatever figures they make, and what may follow them
pub record LeftInRange (due : Due) (y : Year) : Type 0 where
  pub tables : TablesInRange due y
  pub records : RecordsInRange (records_for due.plan y.year) y.planned y.activities

abbrev pub LeftThen : Due → Year → List ℕ → Type 0
LeftThen due y t = LeftInRange due y × Follows y.planned y.activities t

-- the plan's records are those of the year that is due
for_due : (plan : Option Plan) (year due_year : ℕ) (planned : Bool) (l : List Activity) → year ≡ due_year → RecordsInRange (records_for plan year) planned l
    → RecordsInRange (records_for plan due_year) planned l
for_due plan year due_year planned l e r = rw e at r

year-due_exact : (due : Due) → DueInRange due → 1 ≤ due.state.left
    → Exact 0 Any (year_records (records_for due.plan due.state.year) due.state.year due.terms.start.0 due.terms.beltstart.0) year_bytes (LeftThen due)
unfolding year_records year_bytes joined
year-due_exact due h left =
    begin-first _ _ (lit< tt) (λ y t c p. simp (length-append, length-bytes) (omega arith))
    (field_then _ (λ (y : Year). y.year) (λ y t c p. omega arith) (λ v lv.
    field_then _ (λ (y : Year). y.operating_days) (λ y t c p. omega (arith, days_range y.year)) (λ d ld.
    equal_then _ _ _ (λ y t c p. omega arith) (λ ev.
    within_then _ _ _ _ (λ y t c p. let e = ap days_in_year c.0.1 in omega (arith, days_range v)) (λ rd.
    sub_then (λ (y : Year). y.conversions) (conversions_exact mark_cp _ (lit< tt) h.start) (λ y t c p. p.0.tables.conversions) (λ xs u xr.
    sub_then (λ (y : Year). y.belt_conversions) (conversions_exact mark_cd _ (lit< tt) h.beltstart) (λ y t c p. p.0.tables.belt_conversions) (λ ys u yr.
    last_then (λ (y : Year). record { planned = y.planned; activities = y.activities })
    (λ r. record { year = v; operating_days = d; conversions = xs; belt_conversions = ys; planned = r.planned; activities = r.activities })
    (taken_exact (records_for due.plan due.state.year))
    (λ y t c p. (
      (for_due due.plan _ _ y.planned y.activities p.0.tables.year p.0.records, p.1),
      sym (λ i. record {
        year = c.0.0.0.1 i;
        operating_days = c.0.0.1 i;
        conversions = c.0.1 i;
        belt_conversions = c.1 i;
        planned = y.planned;
        activities = y.activities;
      }),
    ))
    (λ r t k. (
      ((((tt, refl), refl), refl), refl),
      (
        record {
          tables = record { left = left; year = ev; days = omega arith; conversions = xr; belt_conversions = yr };
          records = for_due due.plan _ _ r.planned r.activities (sym ev) k.0;
        },
        k.1,
      ),
      refl,
    )))))))))

-- where none is left, nothing is accepted
pub none_left-only : {A : Type 0} (s : List ℕ) → Bytes s → (a : A) (t : List ℕ) → none_left s ≡ accepted a t → ⊥
none_left-only {A} s bs a t q = let e = first q in no _ _ _ (sym (none_left_lem e.0) ∙ ap none_left (sym e.1) ∙ q)
  where
    first : none_left s ≡ accepted a t → (u : List ℕ) × (s ≡ bytes 2 mark_yr ++ u)
    first q = unfold none_left followed in let f = step (begin mark_yr _ s) _ q in (f.1, (begin-only mark_yr _ s bs f.2).0)

pub left_exact : (due : Due) → DueInRange due → Exact 0 Any (left_for due) year_bytes (LeftThen due)
unfolding year_left
left_exact due h = go (eqb due.state.left 0) (eqb-true _ _) (eqb-false _ _)
  where
    go : (b : Bool) → (b ≡ true → due.state.left ≡ 0) → (b ≡ false → due.state.left ≡ 0 → ⊥)
        → Exact 0 Any (cond b none_left (year_records (records_for due.plan due.state.year) due.state.year due.terms.start.0 due.terms.beltstart.0)) year_bytes (LeftThen due)
    go true e f = record { reads = λ y t c p. absurd (omega (arith, e refl, p.0.tables.left)); only = λ s bs l y t q. absurd (none_left-only s bs y t q) }
    go false e f = year-due_exact due h (omega (arith, f refl))

-- 13 is no cause where the figures are small, or the records the year's own
allowed-small : (due : Due) (y : Year) → allowed y.planned (figures_for due y) ≡ true → y.planned ≡ true → small_activity (figures_for due y) ≡ true
allowed-small due y e p = cc

pub large_refused : (due : Due) (y : Year) → y.planned ≡ true → small_activity (figures_for due y) ≡ false → allowed y.planned (figures_for due y) ≡ false
large_refused due y p e = cc

small-allowed : (due : Due) (y : Year) → (y.planned ≡ true → small_activity (figures_for due y) ≡ true) → allowed y.planned (figures_for due y) ≡ true
small-allowed due y f = grind arith

pub year_exact : (due : Due) → DueInRange due → Exact 0 Any (year due) year_bytes (YearThen due)
unfolding year
year_exact due h = restated to from (checked _ (λ y. allowed y.planned (figures_for due y)) (left_exact due h))
  where
    to : (y : Year) (t : List ℕ) → LeftThen due y t × (allowed y.planned (figures_for due y) ≡ true) → YearThen due y t
    to y t w = search (allowed-small due y)

    from : (y : Year) (t : List ℕ) → YearThen due y t → LeftThen due y t × (allowed y.planned (figures_for due y) ≡ true)
    from y t w = search (small-allowed due y)

-- a year begins with YR
pub year_begins : (kind : ℕ → Bool) (y : Year) (t : List ℕ) → stands kind (year_bytes y ++ t) ≡ kind mark_yr
unfolding year_bytes joined
year_begins kind y t = rw append_assoc (stands-bytes kind mark_yr _ (lit< tt))

-- ---- at a place: after tables in range, what stands for the records decides
abbrev pub tables_bytes : Year → List ℕ
tables_bytes y =
    joined (bytes 2 mark_yr ∷ bytes 2 y.year ∷ bytes 2 y.operating_days ∷ conversions_bytes mark_cp y.conversions ∷ conversions_bytes mark_cd y.belt_conversions ∷ [])

module _ (due : Due) (h : DueInRange due) (y : Year) (p : TablesInRange due y) where
  pub records-refused : (r : List ℕ) (n : ℕ) → taken (records_for due.plan due.state.year) r ≡ refused n → year due (tables_bytes y ++ r) ≡ refused n
  unfolding year_left year_records joined followed
  records-refused r n f =
      let c = conversions_bytes mark_cp y.conversions ++ (conversions_bytes mark_cd y.belt_conversions ++ r) in
      let z : due.state.left ≡ 0 → ⊥ = λ z. omega (arith, p.left) in
      let d : y.operating_days < 65536 = omega (arith, p.days.most, days_range y.year) in
      let e : tables_bytes y ++ r ≡ year_record y.year y.operating_days c = simp (append_assoc, append-nil) in
      let v : y.year < 65536 = omega (arith, p.year) in
      let project = (conversions_exact mark_cp _ (lit< tt) h.start).reads y.conversions (conversions_bytes mark_cd y.belt_conversions ++ r) tt p.conversions in
      let belt = (conversions_exact mark_cd _ (lit< tt) h.beltstart).reads y.belt_conversions r tt p.belt_conversions in
      left-refused due _ n (rw (e, ne_eqb _ _ z) (year-fields _ y.year y.operating_days c v d ∙ rw (equal-yes _ _ _ c p.year, within-yes _ _ _ _ c p.days, project, belt, f)))

-- activity records of its own, and the mark of one too many: 9, whatever follows the mark
pub one_too_many : (from_plan : Option (List Activity)) (l : List Activity) (s : List ℕ) → RunInRange l → TooMany l s → taken from_plan (run_bytes l ++ s) ≡ refused 9
one_too_many from_plan l s r m = grind (arith, activities_continue, too_many, taken_own, run-not-planned, third_activity)

pub year_one_too_many : (due : Due) → DueInRange due → (y : Year) → YearInRange due y → y.planned ≡ false → (s : List ℕ) → TooMany y.activities s
    → year due (year_bytes y ++ s) ≡ refused 9
year_one_too_many due h y p own s m =
    let r : RunInRange y.activities = rw own at p.records in
    let e : year_bytes y ++ s ≡ tables_bytes y ++ (run_bytes y.activities ++ s) = unfold year_bytes joined run_bytes records_bytes in rw own (simp (append_assoc, append-nil)) in
    rw e (records-refused due h y (tables-of due y p) (run_bytes y.activities ++ s) 9 (one_too_many _ y.activities s r m))
