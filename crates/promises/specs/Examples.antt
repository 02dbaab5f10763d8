-- Document 01, "Checked examples": the marked ones as one table, each beside what the document states, from the definitions that the contracts cite.
-- To be believed. Assumes nothing.
use Rattle.std.specs.Prelude.{ℕ, ◌+◌, ◌*◌, false, List, [], ◌∷◌, ◌++◌, map, ℤ, pos, negsuc, drop, set, replicate}
use Rattle.std.proofs.Math.Option.{none}
use Rattle.classes.specs.Classes.{class_e, class_se, class_mr, class_tp, class_nf, carbon_stocks, emission_factor}
use Rattle.classes.specs.Matrix.{option_one_matrix}
use Rattle.classes.specs.Calendar.{days_in_year}
use Rattle.projection.specs.declared.Region.{Region}
use Rattle.projection.specs.Projection.{area, opened_region, projected_region}
use Rattle.activity.specs.Records.Activity.{Fuel, Nitrogen, Lime}
use Rattle.activity.specs.Activity.{activity_grams}
use Rattle.figures.specs.Figures.{credited_of}
use Rattle.wire.specs.Signed.{figure_at}
use Rattle.dossier.specs.Records.{units, Dossier, dossier_bytes}
use Rattle.reckoner.specs.Calls.{reckon_buffer}
use Rattle.sheet.specs.Ascii.{ascii}
use Rattle.printout.specs.Printout.{printout}

-- areas of one class only
abbrev only : (class area : ℕ) → List ℕ
only class area = set (replicate 12 0) class area

-- a table of conversions with that from class i to class j
abbrev converting : (i j area : ℕ) → List ℕ → List ℕ
converting i j area table = set table (12 * i + j) area

-- "Case A: Option 1, 2020, n 1; PA only E 100,000,000; DA zero; d 366; CP E to E 99,000,000, E to NF 1,000,000; CD zero; FU diesel 100,000"
unfoldable pub case_a : Dossier
case_a = record {
  opening = record {
    head = record { option = 1; first_year = 2020; years = 1 };
    stocks = none;
    project_areas = only class_e 100_000_000;
    belt_areas = replicate 12 0;
    matrix = none;
  };
  years = record {
    year = 2020;
    operating_days = 366;
    conversions = converting class_e class_e 99_000_000 (converting class_e class_nf 1_000_000 (replicate 144 0));
    belt_conversions = replicate 144 0;
    planned = false;
    activities = Fuel 1 100_000 ∷ [];
  } ∷ [];
}

-- the whole reckoning of its bytes, with no plan, no list and a buffer of 255 throughout and four bytes longer than the report: a zero that is not
-- written shows
unfoldable pub buffer_a : List ℕ
buffer_a = reckon_buffer (dossier_bytes case_a) [] [] (replicate 100 255)

-- its sheet, as the document has it
abbrev sheet_a : List ℕ
sheet_a =
    ascii "year reference project activity belt belt-reference displaced reduction credited\n"
    ++ (ascii "2020 833569000 334766667 318630 0 0 0 498483703 398786962\n"
    ++ ascii "total 398786962 tonnes 398 balance 0 0\n")

-- E 3 units, Option 1, one year
unfoldable pub three_units : Region
three_units = projected_region option_one_matrix (opened_region (units (only class_e 3)))

-- ---- the table: what the definitions give, and what documents 01 and 02 state, each as a list of whole numbers
pub record Example : Type 0 where
  pub given : List ℤ
  pub stated : List ℤ

abbrev figure : (given stated : ℤ) → Example
figure given stated = record { given = given ∷ []; stated = stated ∷ [] }

abbrev number : (given stated : ℕ) → Example
number given stated = figure (pos given) (pos stated)

abbrev bytes : (given stated : List ℕ) → Example
bytes given stated = record { given = map pos given; stated = map pos stated }

unfoldable pub examples : List Example
examples =
    -- A: reference, project, activity, belt, belt reference, displaced, reduction, credited; total, tonnes, project and belt balance
    figure (figure_at buffer_a 0) (pos 833_569_000)
    ∷ figure (figure_at buffer_a 8) (pos 334_766_667)
    ∷ figure (figure_at buffer_a 16) (pos 318_630)
    ∷ figure (figure_at buffer_a 24) (pos 0)
    ∷ figure (figure_at buffer_a 32) (pos 0)
    ∷ figure (figure_at buffer_a 40) (pos 0)
    ∷ figure (figure_at buffer_a 48) (pos 498_483_703)
    ∷ figure (figure_at buffer_a 56) (pos 398_786_962)
    ∷ figure (figure_at buffer_a 64) (pos 398_786_962)
    ∷ figure (figure_at buffer_a 72) (pos 398)
    ∷ figure (figure_at buffer_a 80) (pos 0)
    ∷ figure (figure_at buffer_a 88) (pos 0)
    -- "Bytes beyond keep their content"
    ∷ bytes (drop 96 buffer_a) (255 ∷ 255 ∷ 255 ∷ 255 ∷ [])
    -- "It prints exactly", from its bytes
    ∷ bytes (printout (dossier_bytes case_a)) sheet_a
    -- factor E to SE 0; E to TP 0; MR to E 110; TP to NF 5654
    ∷ number (emission_factor carbon_stocks class_e class_se) 0
    ∷ number (emission_factor carbon_stocks class_e class_tp) 0
    ∷ number (emission_factor carbon_stocks class_mr class_e) 110
    ∷ number (emission_factor carbon_stocks class_tp class_nf) 5_654
    -- days of 2000 366, of 2100 365
    ∷ number (days_in_year 2000) 366
    ∷ number (days_in_year 2100) 365
    -- diesel 1,000 g gives 3,187; NI 1, 1, 1,000,000, 4,600 gives 2,854,202; limestone 1 g gives 1
    ∷ number (activity_grams (Fuel 1 1_000)) 3_187
    ∷ number (activity_grams (Nitrogen 1 1 1_000_000 4_600)) 2_854_202
    ∷ number (activity_grams (Lime 1 1)) 1
    -- reduction −1 credits −1, −10 credits −10 (#101)
    ∷ figure (credited_of (negsuc 0)) (negsuc 0)
    ∷ figure (credited_of (negsuc 9)) (negsuc 9)
    -- E 3 units, Option 1, one year: E 2, NF 0, balance 1
    ∷ number (area three_units.areas class_e) 2
    ∷ number (area three_units.areas class_nf) 0
    ∷ number three_units.balance.0 1
    ∷ []
