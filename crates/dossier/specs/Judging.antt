-- Document 01, "Causes and numbers": one judgement of any bytes as a dossier, as an opening piece, as a year piece. "Records are judged in
-- order; the first fault counts."
-- To be believed. Assumes nothing.
use Rattle.std.specs.Prelude.{ℕ, zero, suc, ◌-◌, Bool, true, false, cond, List, [], ◌∷◌, ◌++◌, ltb, eqb, length}
use Rattle.std.proofs.Math.Option.{Option, none, some}
use Rattle.classes.specs.Calendar.{days_in_year}
use Rattle.activity.specs.Records.{Activity}
use Rattle.activity.specs.Activity.{residues}
use Rattle.figures.specs.declared.Figures.{Figures}
use Rattle.figures.specs.Year.{Year}
use Rattle.figures.specs.Figures.{small_activity}
use Rattle.dossier.specs.Causes.{year_wrong, too_many_activities, planned_year_wrong, record_repeated}
use Rattle.dossier.specs.Marks.{mark_pa, mark_da, mark_yr, mark_cp, mark_cd, mark_cr, mark_pl, mark_en}
use Rattle.dossier.specs.Layouts.{fresh}
use Rattle.dossier.specs.Plan.{Plan, records_for}
use Rattle.dossier.specs.Records.{Opening, Due, first_due, next, figures_for, Dossier}
use Rattle.dossier.specs.Reader.{Reader, ◌>>=◌, ◌>>◌, give, refuse, mark, is, upon, begin, field, within, equal, holds, nothing, end_of_piece}
use Rattle.dossier.specs.JudgingRecords.{head, stocks_if_any, areas, matrix_under, conversions, activity_mark, activity}

-- HD, ST if it is there, PA, DA, and MP under Option 2
unfoldable pub opening : Reader Opening
opening = do
  h ← head
  filed ← stocks_if_any
  project ← areas mark_pa 1
  belt ← areas mark_da 0
  m ← matrix_under h.option
  give (record { head = h; stocks = filed; project_areas = project; belt_areas = belt; matrix = m })

-- #106, "a third CR gives 9": whether m is its mark, after these records
abbrev pub third_residue : List Activity → (m : ℕ) → Bool
third_residue before m = cond (is mark_cr m) (ltb 1 (residues before)) false

-- one more activity record after these: a third CR is 9 by its mark alone, before bytes missing
unfoldable pub another : List Activity → Reader Activity
another before = upon (third_residue before) (refuse too_many_activities) activity

-- a year's activity records: those before are read already, up to `more` may follow. "61st activity record of a year": 9, by its mark alone too;
-- #105: 14 "after the later record's fields"
unfoldable pub run : ℕ → List Activity → Reader (List Activity)
run zero before = upon activity_mark (refuse too_many_activities) (give before)
run (suc more) before = upon activity_mark (do a ← another before; holds record_repeated (fresh before a); run more (before ++ (a ∷ []))) (give before)

-- "0 to 60 activity records", those before among them; activities_are in proofs/RunLaws is its equation without a count
unfoldable pub activities : List Activity → Reader (List Activity)
activities before = run (60 - length before) before

-- what stands for a year's activity records, and the records that are taken
pub record Taken : Type 0 where
  pub planned : Bool
  pub activities : List Activity

-- #103, "13 right after PL, where the plan lacks the year": the records that it has for the year
unfoldable pub from_the_plan : Option (List Activity) → Reader Taken
from_the_plan none = refuse planned_year_wrong
from_the_plan (some records) = give (record { planned = true; activities = records })

-- "PL (no fields) may stand instead of the activity records"
unfoldable pub taken : (from_plan : Option (List Activity)) → Reader Taken
taken from_plan = upon (is mark_pl) (do mark mark_pl; from_the_plan from_plan) (do records ← activities []; give (record { planned = false; activities = records }))

-- "none left": YR complete gives 6, whatever follows it; YR cut gives 1
unfoldable pub none_left : {A : Type 0} → Reader A
none_left = do
  begin mark_yr 4
  refuse year_wrong

-- "year not the next, none left, or d wrong": 6; the records of the year that is due, for the totals of PA and DA; from_plan is what the plan has
-- for that year
unfoldable pub year_records : (from_plan : Option (List Activity)) (due_year start beltstart : ℕ) → Reader Year
year_records from_plan due_year start beltstart = do
  begin mark_yr 4
  calendar_year ← field 2
  days ← field 2
  equal year_wrong calendar_year due_year
  within year_wrong 1 days (days_in_year calendar_year)
  project ← conversions mark_cp start
  belt ← conversions mark_cd beltstart
  records ← taken from_plan
  give (record {
    year = calendar_year;
    operating_days = days;
    conversions = project;
    belt_conversions = belt;
    planned = records.planned;
    activities = records.activities;
  })

-- where one is left or none
unfoldable pub year_left : (from_plan : Option (List Activity)) (due_year left start beltstart : ℕ) → Reader Year
year_left from_plan due_year left start beltstart = cond (eqb left 0) none_left (year_records from_plan due_year start beltstart)

-- #103, "The year must satisfy 20 × activity < project + displaced + activity", where PL stands
abbrev pub allowed : (planned : Bool) → Figures → Bool
allowed planned figures = cond planned (small_activity figures) true

-- a year, for what is due; "13 right after PL", before what follows is looked at
unfoldable pub year : Due → Reader Year
year due = do
  y ← year_left (records_for due.plan due.state.year) due.state.year due.state.left due.terms.start.0 due.terms.beltstart.0
  holds planned_year_wrong (allowed y.planned (figures_for due y))
  give y

-- "EN is due only after n years; YR stays due there and gives 6"; "mark not due here, or bytes after EN": 2
unfoldable pub end : Reader (Unit {0})
end = upon (is mark_yr) none_left (do mark mark_en; nothing)

-- the years: those before are read already, `more` follow, each against what is due by then; then EN
unfoldable pub years : ℕ → Due → List Year → Reader (List Year)
years zero due before = do
  end
  give before
years (suc more) due before = do
  y ← year due
  years more (next y due) (before ++ (y ∷ []))

-- the dossier, under a plan: HD to MP, then n years, then EN
unfoldable pub dossier : Option Plan → Reader Dossier
dossier plan = do
  o ← opening
  ys ← years o.head.years (first_due plan o) []
  give (record { opening = o; years = ys })

-- "An opening piece ends after DA (Option 1) or MP"
unfoldable pub opening_piece : Reader Opening
opening_piece = do
  o ← opening
  end_of_piece
  give o

-- "a year piece after CD or any activity record"; #103: "a year piece may end with" PL
unfoldable pub year_piece : Due → Reader Year
year_piece due = do
  y ← year due
  end_of_piece
  give y
