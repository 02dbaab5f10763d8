-- #106: "The longest dossier is now 65,328 bytes, ST included."
-- Assumes nothing.
use Rattle.std.proofs.Common.{ℕ, zero, suc, ◌+◌, ◌*◌, ◌≤◌, ◌≡◌, refl, Bool, false, List, [], ◌∷◌, map, arith, lit≤, length, length-append, replicate}
use mathlib.Core.Option.{Option, none, some}
use Rattle.arithmetic.specs.Sum.{listed}
use Rattle.classes.specs.Classes.{carbon_stocks, deforestation_probabilities}
use Rattle.classes.specs.Matrix.{option_one, option_one_matrix}
use Rattle.classes.proofs.CalendarLaws.{days_range}
use Rattle.classes.proofs.FactorLaws.{built_in_le}
use Rattle.classes.proofs.MatrixLaws.{option_one-rows}
use Rattle.activity.specs.Records.{Activity}
use Rattle.activity.specs.Records.Activity.{Vehicles}
use Rattle.activity.specs.Activity.{ActivitiesInRange, residues, NoneOf, AllDifferent, RunInRange}
use Rattle.figures.specs.Year.{Year}
use Rattle.figures.specs.Reckoning.{after_figures, after_year}
use Rattle.wire.specs.Bytes.{Bytes, bytes, bytes_of_each, joined, total}
use Rattle.dossier.specs.Layouts.{residue_of, activity_bytes}
use Rattle.dossier.specs.Plan.{Plan, PlanLent}
use Rattle.dossier.specs.Records.{head_bytes, stocks_bytes, StocksFiled, areas_bytes, matrix_bytes, MatrixUnder, Opening, OpeningInRange, bytes_if_any, opening_bytes, terms_of, state_of}
use Rattle.dossier.specs.Records.{Due, first_due, next, conversions_bytes, RecordsInRange, records_bytes, YearInRange, year_bytes, YearsInRange, Dossier, DossierInRange, dossier_bytes}
use Rattle.dossier.specs.Reader.{accepted}
use Rattle.dossier.specs.Judging.{dossier}
use Rattle.wire.proofs.BytesLaws.{length-bytes, length-each}
use Rattle.dossier.proofs.ActivityLaws.{activity-length, size_most}
use Rattle.dossier.proofs.WellFormed.{dossier-accepted}

ruleset lengths = (length-append, length-bytes, length-each)

pub run_length : (l : List Activity) → length (joined (map activity_bytes l)) ≤ length l * 15 + 6 * residues l
unfolding joined
run_length [] = omega arith
run_length (a ∷ l) = let h = activity-length a in let m = size_most a in let k = run_length l in simp length-append (omega arith)

records_length : (from_plan : Option (List Activity)) (planned : Bool) (l : List Activity) → RecordsInRange from_plan planned l → length (records_bytes planned l) ≤ 912
unfolding records_bytes
records_length from_plan planned l p = grind (arith, length-bytes, run_length)

year-length : (due : Due) (y : Year) → YearInRange due y → length (year_bytes y) ≤ 3226
unfolding year_bytes conversions_bytes joined
year-length due y p = grind (arith, records_length, length-append {A = ℕ}, length-bytes, length-each)

years-length : (due : Due) (l : List Year) → YearsInRange due l → length (joined (map year_bytes l)) ≤ length l * 3226
unfolding joined
years-length due [] p = grind arith
years-length due (y ∷ l) p = grind (arith, year-length, length-append, years-length (next y due) l p.1)

stocks-length : (m : Option (List ℕ)) → StocksFiled m → length (bytes_if_any stocks_bytes m) ≤ 26
unfolding bytes_if_any stocks_bytes joined
stocks-length none p = omega arith
stocks-length (some xs) p = grind (arith, length-append {A = ℕ}, length-bytes, length-each)

matrix-length : (option : ℕ) (m : Option (List ℕ)) → MatrixUnder option m → length (bytes_if_any matrix_bytes m) ≤ 578
unfolding bytes_if_any matrix_bytes joined
matrix-length option none p = omega arith
matrix-length option (some xs) p = grind (arith, length-append {A = ℕ}, length-bytes, length-each)

opening-length : (o : Opening) → OpeningInRange o → length (opening_bytes o) ≤ 806
unfolding opening_bytes head_bytes areas_bytes joined
opening-length o p = grind (arith, stocks-length, matrix-length, length-append {A = ℕ}, length-bytes, length-each)

dossier-length : (plan : Option Plan) (d : Dossier) → DossierInRange plan d → length (dossier_bytes d) ≤ 65328
unfolding dossier_bytes joined
dossier-length plan d p = grind (arith, opening-length, years-length, length-append, length-bytes)

-- of accepted bytes, whatever the plan
pub longest : (plan : Option Plan) → PlanLent plan → (s : List ℕ) → Bytes s → (d : Dossier) (rest : List ℕ) → dossier plan s ≡ accepted d rest → length s ≤ 65328
longest plan lent s bs d rest q = let w = (dossier-accepted plan lent).sound s bs d rest q in rw w.1 (dossier-length plan d w.0)

-- ---- and one of that length is accepted: ST, Option 2, 20 years, each with 58 records of VE and two of CR
-- k different ones of VE
abbrev fleets : ℕ → List Activity
fleets zero = []
fleets (suc k) = Vehicles 1 k 0 0 ∷ fleets k

-- CR by its area alone
abbrev pub residue_on : (area : ℕ) → Activity
residue_on area = residue_of 1 area 0 0 0 0 0 0

abbrev pub sixty : List Activity
sixty = residue_on 1 ∷ residue_on 2 ∷ fleets 58

abbrev longest_year : ℕ → Year
longest_year y = record {
  year = y;
  operating_days = 1;
  conversions = 1 ∷ replicate 143 0;
  belt_conversions = replicate 144 0;
  planned = false;
  activities = sixty;
}

abbrev longest_years : ℕ → ℕ → List Year
longest_years zero y = []
longest_years (suc k) y = longest_year y ∷ longest_years k (y + 1)

abbrev pub longest_dossier : Dossier
longest_dossier = record {
  opening = record {
    head = record { option = 2; first_year = 2000; years = 20 };
    stocks = some carbon_stocks;
    project_areas = 1 ∷ replicate 11 0;
    belt_areas = replicate 12 0;
    matrix = some option_one_matrix;
  };
  years = longest_years 20 2000;
}

fleets_range : (k : ℕ) → k ≤ 60 → ActivitiesInRange (fleets k)
fleets_range zero h = tt
fleets_range (suc k) h = (omega arith, fleets_range k (omega arith))

-- by their counts
fleet_none : (k n : ℕ) → k ≤ n → NoneOf (fleets k) (Vehicles 1 n 0 0)
fleet_none zero n h = tt
fleet_none (suc k) n h = ((λ e. let same : n ≡ k = cc in omega arith), fleet_none k n (omega arith))

fleets-different : (k : ℕ) → AllDifferent (fleets k)
fleets-different zero = tt
fleets-different (suc k) = (fleet_none k k (omega arith), fleets-different k)

-- CR and VE by what they are, two of CR by their areas
residue-none : (k area : ℕ) → NoneOf (fleets k) (residue_on area)
residue-none zero area = tt
residue-none (suc k) area = ((λ e. cc), residue-none k area)

areas-differ : residue_on 1 ≡ residue_on 2 → ⊥
areas-differ e = grind arith

pub sixty-in_range : RunInRange sixty
sixty-in_range = record {
  count = lit≤ tt;
  residue_count = lit≤ tt;
  each = (omega arith, (omega arith, fleets_range 58 (omega arith)));
  different = ((areas-differ, residue-none 58 1), (residue-none 58 2, fleets-different 58));
}

longest_years_lem : (k : ℕ) (due : Due) → due.state.left ≡ k → due.terms.start.0 ≡ 1 → due.terms.beltstart.0 ≡ 0
    → YearsInRange due (longest_years k due.state.year)
unfolding next after_year after_figures total
longest_years_lem zero due l p b = grind arith
longest_years_lem (suc k) due l p b = grind (arith, days_range, longest_years_lem k (next (longest_year due.state.year) due) (omega arith) p b)

pub longest_accepted : (plan : Option Plan) → PlanLent plan
    → (dossier plan (dossier_bytes longest_dossier) ≡ accepted longest_dossier []) × (length (dossier_bytes longest_dossier) ≡ 65328)
longest_accepted plan lent = ((dossier-accepted plan lent).complete longest_dossier in_range_lem, size)
  where
    opened : OpeningInRange longest_dossier.opening
    opened = unfold total listed carbon_stocks option_one_matrix in record {
      head = record { options = omega arith; first_years = omega arith; count = omega arith };
      stocks = record { twelve = refl; each = λ i h. built_in_le i; non_forest = refl };
      project_areas = record { twelve = refl; totals = omega arith };
      belt_areas = record { twelve = refl; totals = omega arith };
      matrix = (refl, record { count = refl; rows = option_one-rows });
    }

    in_range_lem : DossierInRange plan longest_dossier
    in_range_lem =
        unfold first_due terms_of state_of total in
        record { opening = opened; count = refl; years = longest_years_lem 20 (first_due plan longest_dossier.opening) refl refl refl }

    size : length (dossier_bytes longest_dossier) ≡ 65328
    size =
        unfold listed carbon_stocks deforestation_probabilities option_one option_one_matrix bytes bytes_of_each joined in
        unfold head_bytes stocks_bytes areas_bytes matrix_bytes bytes_if_any opening_bytes conversions_bytes records_bytes activity_bytes year_bytes dossier_bytes in refl
