-- Edges, computed from the definitions alone.
-- Assumes nothing.
use Rattle.std.proofs.Common.{ℕ, ◌≡◌, refl, true, false, List, [], ◌∷◌, ◌++◌, map, pos, take, set, replicate}
use Rattle.arithmetic.specs.Sum.{sum, listed}
use Rattle.arithmetic.specs.Rounding.{ceil_div}
use Rattle.classes.specs.Classes.{class_nf, carbon_stocks, deforestation_probabilities}
use Rattle.classes.specs.Matrix.{option_one, option_one_matrix}
use Rattle.activity.specs.Records.{Activity}
use Rattle.activity.specs.Records.Activity.{Fuel, Vehicles, Nitrogen, Lime}
use Rattle.activity.specs.Activity.{numerator, denominator, activity_grams}
use Rattle.figures.specs.declared.Figures.{Figures}
use Rattle.figures.specs.Figures.{displaced_emissions, reduction_of, credited_of, figures_of, small_activity}
use Rattle.wire.specs.Bytes.{number, bytes, numbers, bytes_of_each, joined, total}
use Rattle.dossier.specs.Marks.{mark_hd, mark_pl}
use Rattle.dossier.specs.Layouts.{residue_of, activity_bytes, same, fresh}
use Rattle.dossier.specs.Plan.{plan_year_bytes, plan_bytes}
use Rattle.dossier.specs.Records.{stocks_bytes, matrix_bytes}
use Rattle.dossier.specs.Claims.{number_of}
use Rattle.dossier.specs.Reader.{give, refuse, mark, stands, upon, if_any, present, begin, field, fields, outside, within, equal, holds, nothing, followed}
use Rattle.dossier.specs.JudgingRecords.{head, each, stocks, matrix, in_range, fields_of, activity_mark, activity_under, activity}
use Rattle.dossier.specs.Judging.{another, run, activities}
use Rattle.dossier.specs.JudgingPlan.{plan_year, plan_end, plan_years, plan, lent_plan}
use Rattle.dossier.proofs.Longest.{residue_on}

-- HD with its three fields
abbrev head_of : ℕ → ℕ → ℕ → List ℕ
head_of option first_year n = joined (bytes 2 mark_hd ∷ bytes 1 option ∷ bytes 2 first_year ∷ bytes 1 n ∷ [])

heads : (number_of (head (head_of 1 2020 20)) ≡ 0) × (number_of (head (head_of 1 2020 21)) ≡ 3) × (number_of (head (head_of 3 2020 1)) ≡ 3) × (number_of (head (head_of 1 1999 1)) ≡ 3)
    × (number_of (head (take 5 (head_of 3 2020 1))) ≡ 1) × (number_of (head []) ≡ 1) × (number_of (head (72 ∷ [])) ≡ 1) × (number_of (head (72 ∷ 69 ∷ [])) ≡ 2)
unfolding number bytes joined followed give mark present begin field outside within head
heads = (refl, refl, refl, refl, refl, refl, refl, refl)

-- ST: the built-in list may be filed, and one of 50,000 in each place but that of NF; 50,001 is 11 and so is 1 for NF, and 1 where ST is cut
abbrev greatest_stocks : List ℕ
greatest_stocks = replicate 11 50_000 ++ (0 ∷ [])

abbrev number_with : List ℕ → ℕ
number_with xs = number_of (stocks (stocks_bytes xs))

filed : (number_with carbon_stocks ≡ 0) × (number_with greatest_stocks ≡ 0) × (number_with (replicate 12 0) ≡ 0) × (number_with (set greatest_stocks 0 50_001) ≡ 11)
    × (number_with (set greatest_stocks 10 50_001) ≡ 11) × (number_with (set greatest_stocks class_nf 1) ≡ 11) × (number_of (stocks (take 25 (stocks_bytes (set greatest_stocks 0 50_001)))) ≡ 1)
unfolding carbon_stocks number bytes numbers bytes_of_each joined stocks_bytes followed give mark present begin fields outside within equal each stocks
filed = (refl, refl, refl, refl, refl, refl, refl)

-- MP: each row sums to 1,000,000; a row of 999,999 is 5
matrices : (number_of (matrix (matrix_bytes option_one_matrix)) ≡ 0) × (number_of (matrix (matrix_bytes (set option_one_matrix 0 975099))) ≡ 5)
unfolding sum listed deforestation_probabilities option_one option_one_matrix number bytes numbers bytes_of_each joined matrix_bytes followed give mark present begin fields equal each matrix
matrices = (refl, refl)

-- each limit of an activity record, and its neighbour out of range; 394 × 501,001 × 5,066 is 10^12 + 4, the least product of VE above its limit;
-- 65,536 × 65,536 is 0 in 32 bits
abbrev limits : List (Activity × Activity)
limits =
    (Fuel 1 0, Fuel 0 0) ∷ (Fuel 3 0, Fuel 4 0) ∷ (Fuel 1 1_000_000_000_000, Fuel 1 1_000_000_000_001)
    ∷ (Vehicles 1 0 0 0, Vehicles 0 0 0 0) ∷ (Vehicles 3 0 0 0, Vehicles 4 0 0 0) ∷ (Vehicles 1 1_000 0 0, Vehicles 1 1_001 0 0)
    ∷ (Vehicles 1 0 1_000_000 0, Vehicles 1 0 1_000_001 0) ∷ (Vehicles 1 0 0 100_000, Vehicles 1 0 0 100_001)
    ∷ (Vehicles 1 1_000 10_000 100_000, Vehicles 1 394 501_001 5_066)
    ∷ (Nitrogen 1 1 0 0, Nitrogen 0 1 0 0) ∷ (Nitrogen 3 1 0 0, Nitrogen 4 1 0 0) ∷ (Nitrogen 1 1 0 0, Nitrogen 1 0 0 0) ∷ (Nitrogen 1 2 0 0, Nitrogen 1 3 0 0)
    ∷ (Nitrogen 1 1 10_000_000_000 0, Nitrogen 1 1 10_000_000_001 0) ∷ (Nitrogen 1 1 0 10_000, Nitrogen 1 1 0 10_001)
    ∷ (Lime 1 0, Lime 0 0) ∷ (Lime 3 0, Lime 4 0) ∷ (Lime 1 1_000_000_000_000, Lime 1 1_000_000_000_001)
    ∷ (residue_of 1 0 0 0 0 0 0 0, residue_of 0 0 0 0 0 0 0 0) ∷ (residue_of 2 0 0 0 0 0 0 0, residue_of 3 0 0 0 0 0 0 0)
    ∷ (residue_of 1 0 4_294_967_295 0 0 0 0 0, residue_of 1 65_536 65_536 0 0 0 0 0) ∷ (residue_of 1 4_294_967_295 0 0 0 0 0 0, residue_of 1 4_294_967_295 4_294_967_295 0 0 0 0 0)
    ∷ (residue_of 1 10_000 10_000 0 0 0 0 0, residue_of 1 1 100_000_001 0 0 0 0 0) ∷ (residue_of 1 0 0 10_000 0 0 0 0, residue_of 1 0 0 10_001 0 0 0 0)
    ∷ (residue_of 1 0 0 0 500 0 0 0, residue_of 1 0 0 0 501 0 0 0) ∷ (residue_of 1 0 0 0 0 500 0 0, residue_of 1 0 0 0 0 501 0 0)
    ∷ (residue_of 1 0 0 0 0 0 10_000 0, residue_of 1 0 0 0 0 0 10_001 0) ∷ (residue_of 1 0 0 0 0 0 0 10_000, residue_of 1 0 0 0 0 0 0 10_001)
    ∷ []

-- from the bytes: the limit is taken, its neighbour 8
abbrev number_from : Activity → ℕ
number_from a = number_of (activity (activity_bytes a))

limits_hold : (map (λ (l : Activity × Activity). number_from l.0) limits ≡ map (λ (l : Activity × Activity). 0) limits)
    × (map (λ (l : Activity × Activity). number_from l.1) limits ≡ map (λ (l : Activity × Activity). 8) limits)
unfolding number bytes total activity_bytes followed give present field outside within in_range fields_of activity_under activity
limits_hold = (refl, refl)

-- a plan (#103): none, EN alone, rising years, and the first year and the last that 16 bits say; 12 for equal or falling years, EN missing or cut, a byte
-- after it, a mark that is not due; #105: other records are no pair, a pair is 14 before what follows it, and after what comes before it; #106: two of CR
-- are no fault, a pair of them is 14, and a third is 12, whether it equals one of them or not
abbrev plan_of : List ℕ → List ℕ
plan_of ys = plan_bytes (map (λ (y : ℕ). record { year = y; activities = Lime 1 1 ∷ [] }) ys)

abbrev plan_with : List Activity → List ℕ
plan_with l = plan_bytes (record { year = 2020; activities = l } ∷ [])

abbrev number_as : List ℕ → ℕ
number_as s = number_of (lent_plan s)

plans : (number_as [] ≡ 0) × (number_as (plan_of []) ≡ 0) × (number_as (plan_of (2020 ∷ 2021 ∷ [])) ≡ 0) × (number_as (plan_of (0 ∷ 65_535 ∷ [])) ≡ 0)
    × (number_as (plan_of (2020 ∷ 2020 ∷ [])) ≡ 12) × (number_as (plan_of (2021 ∷ 2020 ∷ [])) ≡ 12) × (number_as (take 15 (plan_of (2020 ∷ []))) ≡ 12)
    × (number_as (take 16 (plan_of (2020 ∷ []))) ≡ 12) × (number_as (plan_of [] ++ (0 ∷ [])) ≡ 12) × (number_as (bytes 2 mark_pl ++ plan_of []) ≡ 12)
    × (number_as (plan_with (Lime 1 1 ∷ Fuel 1 1 ∷ Lime 1 2 ∷ [])) ≡ 0) × (number_as (plan_with (Lime 1 1 ∷ Fuel 1 1 ∷ Lime 1 1 ∷ [])) ≡ 14)
    × (number_as (plan_with (Lime 1 1 ∷ Lime 1 1 ∷ Lime 4 1 ∷ [])) ≡ 14) × (number_as (plan_with (Lime 4 1 ∷ Lime 1 1 ∷ Lime 1 1 ∷ [])) ≡ 12)
    × (number_as (plan_with (residue_on 1 ∷ residue_on 2 ∷ [])) ≡ 0) × (number_as (plan_with (residue_on 1 ∷ residue_on 1 ∷ [])) ≡ 14)
    × (number_as (plan_with (residue_on 1 ∷ residue_on 2 ∷ residue_on 3 ∷ [])) ≡ 12) × (number_as (plan_with (residue_on 1 ∷ residue_on 2 ∷ residue_on 1 ∷ [])) ≡ 12)
unfolding number bytes joined total followed give refuse mark stands upon if_any present begin field outside within holds nothing in_range fields_of activity_mark activity_under activity
    activity_bytes same fresh plan_year_bytes plan_bytes another run activities plan_year plan_end plan_years plan lent_plan
plans = (refl, refl, refl, refl, refl, refl, refl, refl, refl, refl, refl, refl, refl, refl, refl, refl, refl, refl)

-- CR: 2 ha of 10,000 kg, whose residues above the ground weigh as much and have a ten-thousandth of nitrogen; none; and as much as there can be of either crop
residues_emit : (activity_grams (residue_of 1 2 10_000 10_000 100 0 1 0) ≡ 11_473) × (activity_grams (residue_of 1 0 4_294_967_295 10_000 500 500 10_000 10_000) ≡ 0)
    × (activity_grams (residue_of 1 10_000 10_000 10_000 500 500 10_000 10_000) ≡ 5_736_500_000_000)
    × (activity_grams (residue_of 2 10_000 10_000 10_000 500 500 10_000 10_000) ≡ 2_458_500_000_000)
unfolding ceil_div numerator denominator activity_grams
residues_emit = (refl, refl, refl, refl)

-- project 1,908,170 with planned limestone: 228,247 g are small enough, 228,248 g are not, for both sides are 2,008,600 then
abbrev with_limestone : ℕ → Figures
with_limestone grams = figures_of (pos 0) (pos 1_908_170) (pos (activity_grams (Lime 1 grams))) (pos 0) (pos 0)

small_edge : (small_activity (with_limestone 228_247) ≡ true) × (small_activity (with_limestone 228_248) ≡ false) × (small_activity (figures_of (pos 0) (pos 0) (pos 0) (pos 0) (pos 0)) ≡ false)
unfolding ceil_div numerator denominator activity_grams displaced_emissions reduction_of credited_of figures_of small_activity
small_edge = (refl, refl, refl)
