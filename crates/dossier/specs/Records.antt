-- Document 01, "The dossier": each record's fields, their ranges, and its bytes. What YR, CP, CD and the activity records bring is a Year of the
-- crate figures; an activity record is an Activity of the crate activity, which has its ranges; its bytes are in Layouts.
-- To be believed. Assumes nothing.
use Rattle.std.specs.Prelude.{ℕ, ◌≤◌, ◌<◌, ◌≡◌, Bool, true, false, List, [], ◌∷◌, map, pos, length, get_or}
use Rattle.std.proofs.Math.Option.{Option, none, some}
use Rattle.units.specs.declared.AreaUnits.{AreaUnits}
use Rattle.classes.specs.Classes.{classes, class_nf, carbon_stocks, greatest_area, greatest_stock}
use Rattle.classes.specs.Matrix.{RowsSum, option_one_matrix}
use Rattle.classes.specs.Calendar.{days_in_year}
use Rattle.projection.specs.Projection.{opened_region}
use Rattle.activity.specs.Records.{Activity}
use Rattle.activity.specs.Activity.{Within, RunInRange}
use Rattle.figures.specs.declared.Terms.{Terms}
use Rattle.figures.specs.declared.State.{State}
use Rattle.figures.specs.Nothing.{no_terms, no_state}
use Rattle.figures.specs.Year.{Year}
use Rattle.figures.specs.declared.Figures.{Figures}
use Rattle.figures.specs.Figures.{small_activity}
use Rattle.figures.specs.Reckoning.{year_figures, after_year}
use Rattle.wire.specs.Bytes.{bytes, bytes_of_each, joined, total}
use Rattle.dossier.specs.Marks.{mark_hd, mark_st, mark_pa, mark_da, mark_mp, mark_yr, mark_cp, mark_cd, mark_pl, mark_en}
use Rattle.dossier.specs.Layouts.{activity_bytes}
use Rattle.dossier.specs.Plan.{Plan, PlanLent, plan_bytes, records_for}

-- "HD: option 8 bits (1 or 2), first year 16 bits (2000 to 2200), years n 8 bits (1 to 20)"
pub record Head : Type 0 where
  pub option : ℕ
  pub first_year : ℕ
  pub years : ℕ

pub record HeadInRange (h : Head) : Type 0 where
  pub options : Within 1 h.option 2
  pub first_years : Within 2000 h.first_year 2200
  pub count : Within 1 h.years 20

unfoldable pub head_bytes : Head → List ℕ
head_bytes h = joined (bytes 2 mark_hd ∷ bytes 1 h.option ∷ bytes 2 h.first_year ∷ bytes 1 h.years ∷ [])

-- #102, "an optional record ST after HD carries twelve stocks of 16 bits, hundredths of tC per ha, each at most 50,000; that of NF must be 0"
pub record StocksInRange (stocks : List ℕ) : Type 0 where
  pub twelve : length stocks ≡ classes
  pub each : (i : ℕ) → i < classes → get_or stocks i 0 ≤ greatest_stock
  pub non_forest : get_or stocks class_nf 0 ≡ 0

unfoldable pub stocks_bytes : List ℕ → List ℕ
stocks_bytes stocks = joined (bytes 2 mark_st ∷ bytes_of_each 2 stocks ∷ [])

-- filed or not
abbrev pub StocksFiled : Option (List ℕ) → Type 0
StocksFiled none = Unit {0}
StocksFiled (some stocks) = StocksInRange stocks

-- "PA, DA: 12 areas of 64 bits, project then belt. Each total is at most 10^12; the project's is at least 1, the belt's may be 0" (least)
pub record AreasInRange (least : ℕ) (areas : List ℕ) : Type 0 where
  pub twelve : length areas ≡ 12
  pub totals : Within least (total areas) greatest_area

unfoldable pub areas_bytes : ℕ → List ℕ → List ℕ
areas_bytes m areas = joined (bytes 2 m ∷ bytes_of_each 8 areas ∷ [])

-- "MP: 144 numbers of 32 bits", "each row sums to 1,000,000"
pub record MatrixInRange (matrix : List ℕ) : Type 0 where
  pub count : length matrix ≡ 144
  pub rows : RowsSum matrix

unfoldable pub matrix_bytes : List ℕ → List ℕ
matrix_bytes matrix = joined (bytes 2 mark_mp ∷ bytes_of_each 4 matrix ∷ [])

-- what a ledger is opened from, "from HD to MP"
pub record Opening : Type 0 where
  pub head : Head
  pub stocks : Option (List ℕ)
  pub project_areas : List ℕ
  pub belt_areas : List ℕ
  pub matrix : Option (List ℕ)

-- "present exactly under Option 2"
abbrev pub MatrixUnder : ℕ → Option (List ℕ) → Type 0
MatrixUnder option none = option ≡ 1
MatrixUnder option (some matrix) = (option ≡ 2) × MatrixInRange matrix

pub record OpeningInRange (o : Opening) : Type 0 where
  pub head : HeadInRange o.head
  pub stocks : StocksFiled o.stocks
  pub project_areas : AreasInRange 1 o.project_areas
  pub belt_areas : AreasInRange 0 o.belt_areas
  pub matrix : MatrixUnder o.head.option o.matrix

-- of a record that may be absent
unfoldable pub bytes_if_any : {A : Type 0} → (A → List ℕ) → Option A → List ℕ
bytes_if_any encoded none = []
bytes_if_any encoded (some a) = encoded a

unfoldable pub opening_bytes : Opening → List ℕ
opening_bytes o =
    joined (head_bytes o.head ∷ bytes_if_any stocks_bytes o.stocks
    ∷ areas_bytes mark_pa o.project_areas ∷ areas_bytes mark_da o.belt_areas ∷ bytes_if_any matrix_bytes o.matrix ∷ [])

-- areas of area units
abbrev pub units : List ℕ → List AreaUnits
units xs = map (λ (n : ℕ). record { 0 = n }) xs

-- #102, "Without ST the built-in table holds"
abbrev pub stocks_in_use : Option (List ℕ) → List ℕ
stocks_in_use none = carbon_stocks
stocks_in_use (some stocks) = stocks

-- "Option 1 uses the matrix" of table 4
abbrev pub matrix_in_use : Option (List ℕ) → List ℕ
matrix_in_use none = option_one_matrix
matrix_in_use (some matrix) = matrix

-- what an opening settles: its option, the stocks and the matrix in use, "the total of PA, for the belt that of DA"
unfoldable pub terms_of : Opening → Terms
terms_of o = record {
  option = o.head.option;
  stocks = stocks_in_use o.stocks;
  matrix = matrix_in_use o.matrix;
  start = record { 0 = total o.project_areas };
  beltstart = record { 0 = total o.belt_areas };
}

-- the state that it starts: n years from the first on, "the areas at inception", nothing credited
unfoldable pub state_of : Opening → State
state_of o = record {
  year = o.head.first_year;
  left = o.head.years;
  project = opened_region (units o.project_areas);
  belt = opened_region (units o.belt_areas);
  total = record { 0 = pos 0 };
}

-- "all zeros": the terms and the state of a ledger whose opening was refused
unfoldable pub empty_terms : Terms
empty_terms = no_terms

unfoldable pub empty_state : State
empty_state = no_state

-- what an opening settles: the terms, and the state that it starts
pub record Settled : Type 0 where
  pub terms : Terms
  pub state : State

unfoldable pub settled : Opening → Settled
settled o = record { terms = terms_of o; state = state_of o }

-- what a year is judged against: the terms, the state that the years before it left, and the plan that is lent (#103)
pub record Due : Type 0 where
  pub terms : Terms
  pub state : State
  pub plan : Option Plan

-- after an opening, and once a year is given
unfoldable pub first_due : Option Plan → Opening → Due
first_due plan o = record { terms = terms_of o; state = state_of o; plan = plan }

unfoldable pub next : Year → Due → Due
next y due = record { terms = due.terms; state = after_year due.terms y due.state; plan = due.plan }

-- "CP and CD, 144 conversions of 64 bits each, diagonal included, whose sum is the total of PA or DA" (sum)
pub record ConversionsInRange (sum : ℕ) (conversions : List ℕ) : Type 0 where
  pub count : length conversions ≡ 144
  pub totals : total conversions ≡ sum

unfoldable pub conversions_bytes : ℕ → List ℕ → List ℕ
conversions_bytes m conversions = joined (bytes 2 m ∷ bytes_of_each 8 conversions ∷ [])

-- a year's activity records: its own, or those that the plan has for the year (#103: "takes that year's records from the plan")
abbrev pub RecordsInRange : (from_plan : Option (List Activity)) (planned : Bool) → List Activity → Type 0
RecordsInRange from_plan false activities = RunInRange activities
RecordsInRange from_plan true activities = from_plan ≡ some activities

-- #103, "a record PL (no fields) may stand instead of the activity records"
unfoldable pub records_bytes : (planned : Bool) → List Activity → List ℕ
records_bytes false activities = joined (map activity_bytes activities)
records_bytes true activities = bytes 2 mark_pl

-- the figures of a year, for what is due
abbrev pub figures_for : Due → Year → Figures
figures_for due y = year_figures due.terms y due.state.project due.state.belt

-- "YR with year and d, 16 bits each (from the first year on without a gap; d from 1 to D); CP and CD, ..; then 0 to 60 activity records" or PL, for what
-- is due; with PL "the year must satisfy 20 × activity < project + displaced + activity" (#103)
pub record YearInRange (due : Due) (y : Year) : Type 0 where
  pub left : 1 ≤ due.state.left
  pub year : y.year ≡ due.state.year
  pub days : Within 1 y.operating_days (days_in_year y.year)
  pub conversions : ConversionsInRange due.terms.start.0 y.conversions
  pub belt_conversions : ConversionsInRange due.terms.beltstart.0 y.belt_conversions
  pub records : RecordsInRange (records_for due.plan y.year) y.planned y.activities
  pub small : y.planned ≡ true → small_activity (figures_for due y) ≡ true

unfoldable pub year_bytes : Year → List ℕ
year_bytes y =
    joined (bytes 2 mark_yr ∷ bytes 2 y.year ∷ bytes 2 y.operating_days
    ∷ conversions_bytes mark_cp y.conversions ∷ conversions_bytes mark_cd y.belt_conversions ∷ records_bytes y.planned y.activities ∷ [])

-- years given one after the other
abbrev pub YearsInRange : Due → List Year → Type 0
YearsInRange due [] = Unit {0}
YearsInRange due (y ∷ years) = YearInRange due y × YearsInRange (next y due) years

-- HD to MP, "then n times" a year, then "EN, no fields, nothing after it"
pub record Dossier : Type 0 where
  pub opening : Opening
  pub years : List Year

-- under a plan
pub record DossierInRange (plan : Option Plan) (d : Dossier) : Type 0 where
  pub opening : OpeningInRange d.opening
  pub count : length d.years ≡ d.opening.head.years
  pub years : YearsInRange (first_due plan d.opening) d.years

unfoldable pub dossier_bytes : Dossier → List ℕ
dossier_bytes d = joined (opening_bytes d.opening ∷ joined (map year_bytes d.years) ∷ bytes 2 mark_en ∷ [])

-- well formed: the bytes of records in range, and nothing else. A dossier with n years from first on, under a plan; an opening piece; a year piece, for
-- what is due; and what is lent as a plan, "Zero bytes mean no plan"
abbrev pub WellFormedYears : (first n : ℕ) → Option Plan → List ℕ → Type 0
WellFormedYears first n plan s = (d : Dossier) × DossierInRange plan d × (s ≡ dossier_bytes d) × (d.opening.head.first_year ≡ first) × (length d.years ≡ n)

abbrev pub WellFormedOpening : List ℕ → Type 0
WellFormedOpening s = (o : Opening) × OpeningInRange o × (s ≡ opening_bytes o)

abbrev pub WellFormedYear : Due → List ℕ → Type 0
WellFormedYear due s = (y : Year) × YearInRange due y × (s ≡ year_bytes y)

abbrev pub WellFormedPlan : Option Plan → List ℕ → Type 0
WellFormedPlan plan s = PlanLent plan × (s ≡ bytes_if_any plan_bytes plan)
