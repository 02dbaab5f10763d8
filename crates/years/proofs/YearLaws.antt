-- A year at a place, from the fields that are read there and the tests of them.
-- Assumes nothing.
use mathlib.Core.Path.{◌≡◌, ◌∙◌, sym}
use mathlib.Core.Bool.{Bool, true, false, cond}
use mathlib.Core.Option.{Option}
use mathlib.Core.List.{List}
use Prim.Native.Nat.{ℕ, ◌+◌}
use lib.Dec.{eqb}
use lib.ListN.{drop}
use borrow.Author.Tests.{eq-eqb, ne_eqb}
use Rattle.units.specs.declared.CarbonUnits.{CarbonUnits}
use Rattle.classes.specs.Calendar.{days_in_year}
use Rattle.activity.specs.Records.{Activity}
use Rattle.figures.specs.declared.YearDays.{YearDays}
use Rattle.figures.specs.Year.{Year}
use Rattle.wire.specs.Bytes.{field_at}
use Rattle.dossier.specs.Marks.{mark_yr, mark_cp, mark_cd}
use Rattle.dossier.specs.Reader.{refused, accepted, Reader, after, followed, ◌>>=◌, give, begin, outside}
use Rattle.dossier.specs.Claims.{number_of}
use Rattle.dossier.specs.JudgingRecords.{conversions}
use Rattle.dossier.specs.Judging.{taken, none_left, year_records, year_left}
use Rattle.cursor.proofs.AtLaws.{begun_says, begun_no, begun-yes, reading}
use Rattle.dossier.proofs.ReaderLaws.{bind_no, bind-yes, bind-bind, after_same}
use Rattle.years.proofs.EndLaws.{none_left-is}
use Rattle.activity.specs.Activity.{activity_emissions}
use lib.IntN.{pos}
use Rattle.tables.specs.Answers.{monitored_table}
use Rattle.years.specs.Answers.{Summary, summary, summarized_year}

-- ---- from the activity records or PL on, and from CP on
unfoldable pub summarized_records : Option (List Activity) → YearDays → CarbonUnits → CarbonUnits → Reader Summary
summarized_records from_plan days project belt = do
  r ← taken from_plan
  give (record { days = days; project = project; belt = belt; planned = r.planned; activity = record { 0 = pos (activity_emissions r.activities) } })

unfoldable pub summarized_tables : (ℕ → ℕ → ℕ) → Option (List Activity) → YearDays → ℕ → ℕ → Reader Summary
summarized_tables factor from_plan days start beltstart = do
  p ← monitored_table factor mark_cp start
  b ← monitored_table factor mark_cd beltstart
  summarized_records from_plan days p b

module _ (factor : ℕ → ℕ → ℕ) (from_plan : Option (List Activity)) (days : YearDays) (start beltstart : ℕ) (u : List ℕ)
    (p : CarbonUnits) (v : List ℕ) (e : accepted p v ≡ monitored_table factor mark_cp start u) where
  pub belt_no : (n : ℕ) → refused n ≡ monitored_table factor mark_cd beltstart v → refused n ≡ summarized_tables factor from_plan days start beltstart u
  unfolding summarized_tables
  belt_no n f = bind_no (monitored_table factor mark_cd beltstart) _ v n f ∙ bind-yes (monitored_table factor mark_cp start) _ u p v e

  pub belt-yes : (b : CarbonUnits) (w : List ℕ) → accepted b w ≡ monitored_table factor mark_cd beltstart v → summarized_records from_plan days p b w ≡ summarized_tables factor from_plan days start beltstart u
  unfolding summarized_tables
  belt-yes b w f = bind-yes (monitored_table factor mark_cd beltstart) _ v b w f ∙ bind-yes (monitored_table factor mark_cp start) _ u p v e

-- the tables and records of a year, and the same summarized
unfoldable pub tables : (from_plan : Option (List Activity)) (calendar_year d start beltstart : ℕ) → Reader Year
tables from_plan calendar_year d start beltstart = do
  p ← conversions mark_cp start
  b ← conversions mark_cd beltstart
  r ← taken from_plan
  give (record { year = calendar_year; operating_days = d; conversions = p; belt_conversions = b; planned = r.planned; activities = r.activities })

pub tables_summarized : (factor : ℕ → ℕ → ℕ) (from_plan : Option (List Activity)) (calendar_year d start beltstart : ℕ) (u : List ℕ)
    → after (tables from_plan calendar_year d start beltstart u) (λ y. give (summary factor y))
    ≡ summarized_tables factor from_plan (record { operating = d; calendar = days_in_year calendar_year }) start beltstart u
unfolding tables summarized_tables summarized_records monitored_table give followed
tables_summarized factor from_plan calendar_year d start beltstart u =
    bind-bind (conversions mark_cp start u) _ _
    ∙ after_same (conversions mark_cp start u) _ _ (λ p v. bind-bind (conversions mark_cd beltstart v) _ _
    ∙ after_same (conversions mark_cd beltstart v) _ _ (λ b w. bind-bind (taken from_plan w) _ _)
    ∙ sym (bind-bind (conversions mark_cd beltstart v) _ _))
    ∙ sym (bind-bind (conversions mark_cp start u) _ _)

-- ---- YR
pub year-none : (factor : ℕ → ℕ → ℕ) (from_plan : Option (List Activity)) (due left start beltstart : ℕ) (u : List ℕ) (n : ℕ) → left ≡ 0 → n ≡ number_of (none_left {A = Unit {0}} u)
    → refused n ≡ summarized_year factor from_plan due left start beltstart u
unfolding summarized_year year_left
year-none factor from_plan due left start beltstart u n e g = bind_no (year_left from_plan due left start beltstart) _ u n (rw (eq-eqb left 0 e, g) (sym (none_left-is u)))

module _ (factor : ℕ → ℕ → ℕ) (from_plan : Option (List Activity)) (due left start beltstart : ℕ) (s : List ℕ) (at r : ℕ) (h : begun_says s at r ≡ begin mark_yr 4 (drop at s)) where
  pub year_no : (left ≡ 0 → ⊥) → (r ≡ 0 → ⊥) → refused r ≡ summarized_year factor from_plan due left start beltstart (drop at s)
  unfolding summarized_year year_left year_records
  year_no some f = bind_no (year_left from_plan due left start beltstart) _ (drop at s) r (rw (ne_eqb left 0 some) (begun_no s at mark_yr 4 r h _ f))

  module _ (z : r ≡ 0) where
    module _ (some : left ≡ 0 → ⊥) (y d : ℕ) (ey : y ≡ field_at 2 s (at + 2)) (ed : d ≡ field_at 2 s (at + 4)) where
      year-at : year_left from_plan due left start beltstart (drop at s)
          ≡ cond (eqb y due) (cond (outside 1 d (days_in_year y)) (refused 6) (tables from_plan y d start beltstart (drop (at + 6) s))) (refused 6)
      unfolding year_left year_records tables
      year-at = rw (ne_eqb left 0 some) (rw (← begun-yes s at mark_yr 4 r h _ z) (simp (reading, ← ey, ← ed)))

      pub year_other : (y ≡ due → ⊥) → refused 6 ≡ summarized_year factor from_plan due left start beltstart (drop at s)
      unfolding summarized_year
      year_other f = bind_no (year_left from_plan due left start beltstart) _ (drop at s) 6 (rw (year-at, ne_eqb y due f))

      module _ (e : y ≡ due) (x : ℕ) (ex : x ≡ days_in_year y) (out : Bool) (eo : out ≡ outside 1 d x) where
        pub days_wrong : out ≡ true → refused 6 ≡ summarized_year factor from_plan due left start beltstart (drop at s)
        unfolding summarized_year
        days_wrong f = bind_no (year_left from_plan due left start beltstart) _ (drop at s) 6 (rw (year-at, eq-eqb y due e, ← ex, ← eo, f))

        pub days-right : out ≡ false → summarized_tables factor from_plan (record { operating = d; calendar = x }) start beltstart (drop (at + 6) s)
            ≡ summarized_year factor from_plan due left start beltstart (drop at s)
        unfolding summarized_year followed
        days-right f = sym (rw (year-at, eq-eqb y due e, ← ex, ← eo, f) (rw ex (tables_summarized factor from_plan y d start beltstart (drop (at + 6) s))))
