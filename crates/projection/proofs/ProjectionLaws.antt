-- The projection of any twelve areas: ranges, and what is kept.
-- Assumes nothing.
use mathlib.Core.Path.{◌≡◌, refl, ap, ◌∙◌}
use mathlib.Core.List.{List}
use Prim.Native.Nat.{ℕ, zero, suc, ◌+◌, ◌*◌, ◌≤◌, ◌<◌}
use native.Mathlib.Nat.{zero-lt-suc, le_trans, mul-le-mul_left, mul-le-mul_right, mul_comm, le_of_eq, div-le_of_le-mul}
use native.Mathlib.Numerals.{add-one}
use native.Mathlib.Omega.{arith}
use lib.ListN.{length, take}
use lib.Seq.{take_all}
use Rattle.arithmetic.specs.Sum.{sum}
use Rattle.arithmetic.proofs.SumLaws.{sum_cong, sum-le, sum-mul, sum_part, sum-none, sum-next, sum_swap, term_le, get_or-listed}
use Rattle.std.specs.Prelude.{sum_by}
use Rattle.std.proofs.lemmas.List.Sums.{sum_by_more}
use Rattle.units.specs.declared.AreaUnits.{AreaUnits}
use Rattle.units.specs.Units.{total_area}
use Rattle.classes.specs.Classes.{classes, greatest_stock}
use Rattle.classes.specs.Matrix.{entry, million}
use Rattle.projection.specs.Projection.{area, area_total, flow, next_area, next_areas, projected_carbon, lost_area}
use Rattle.projection.specs.Inflow.{inflow_carbon}
use Rattle.classes.specs.Ranges.{RowsWithin, FactorsFit}
use Rattle.classes.proofs.MatrixLaws.{probability_le}
use Rattle.projection.proofs.FlowLaws as F

pub million_pos : 0 < million
million_pos = zero-lt-suc 999999

pub next_area_lem : (areas : List AreaUnits) (matrix : List ℕ) (j : ℕ) → j < classes → area (next_areas areas matrix) j ≡ next_area areas matrix j
unfolding next_areas
next_area_lem areas matrix j h = ap (λ (a : AreaUnits). a.0) (get_or-listed classes (λ j. record { 0 = next_area areas matrix j }) j (record { 0 = 0 }) h)

pub next-total : (areas : List AreaUnits) (matrix : List ℕ) → area_total (next_areas areas matrix) ≡ sum classes (next_area areas matrix)
next-total areas matrix = sum_cong classes (area (next_areas areas matrix)) (next_area areas matrix) (λ j h. next_area_lem areas matrix j h)

-- the total of a list of twelve areas is their total by class
first_areas : (areas : List AreaUnits) (n : ℕ) → n ≤ length areas → sum_by (λ (a : AreaUnits). a.0) (take n areas) ≡ sum n (area areas)
unfolding sum
first_areas areas zero h = refl
first_areas areas (suc n) h = rw (← add-one) (sum_by_more (λ (a : AreaUnits). a.0) areas n (record { 0 = 0 }) h) ∙ ap (λ (k : ℕ). k + area areas n) (first_areas areas n (omega arith))

pub total_by_class : (areas : List AreaUnits) → length areas ≡ 12 → total_area areas ≡ area_total areas
total_by_class areas twelve = rw (take_all 12 areas (omega arith)) at (first_areas areas 12 (omega arith))

-- the next partial sum is at most the whole
pub area_step : (areas : List AreaUnits) (i : ℕ) → i < 12 → sum i (area areas) + area areas i ≤ area_total areas
area_step areas i h = omega (arith, sum-next i (area areas), sum_part (i + 1) 12 (area areas) (omega arith))

-- the carbon of all flows, column by column
pub carbon_columns : (factor : ℕ → ℕ → ℕ) (areas : List AreaUnits) (matrix : List ℕ) → sum classes (inflow_carbon factor areas matrix) ≡ projected_carbon factor areas matrix
unfolding inflow_carbon projected_carbon
carbon_columns factor areas matrix = sum_swap classes classes (λ j i. flow areas matrix i j * factor i j)

-- factors of a table
pub fitting_le : (factors : List ℕ) → FactorsFit factors → (i j : ℕ) → entry factors i j ≤ greatest_stock
fitting_le factors fit i j = fit (12 * i + j)

-- no area is above the total
pub area_le : (areas : List AreaUnits) (i : ℕ) → i < classes → area areas i ≤ area_total areas
area_le areas i h = term_le classes (area areas) i h

-- for a loop over the classes
pub ruleset class_turns = (sum-none, sum-next, area_le, probability_le)

module _ (areas : List AreaUnits) (matrix : List ℕ) (rows : RowsWithin matrix) where
  -- the areas after the year and what rounding lost make up the areas before it
  pub areas-kept : area_total (next_areas areas matrix) + lost_area areas matrix ≡ area_total areas
  unfolding lost_area next_area
  areas-kept = ap (λ (n : ℕ). n + lost_area areas matrix) (next-total areas matrix) ∙ F.kept classes million million_pos (area areas) (entry matrix) rows

  flow-le : (i j : ℕ) → i < classes → j < classes → flow areas matrix i j ≤ area areas i
  flow-le i j hi hj = div-le_of_le-mul million (le_trans (mul-le-mul_left (area areas i) (probability_le matrix rows i j hi hj)) (le_of_eq (mul_comm (area areas i) million)))

  -- the flows into class j from the first n classes, and their carbon by factors of at most g
  pub inflow_le : (n j : ℕ) → n ≤ classes → j < classes → sum n (λ i. flow areas matrix i j) ≤ area_total areas
  inflow_le n j hn hj = le_trans (sum-le n (λ i. flow areas matrix i j) (area areas) (λ i h. flow-le i j (omega arith) hj)) (sum_part n classes (area areas) hn)

  -- one more class
  pub inflow_next : (i j : ℕ) → i < classes → j < classes → sum i (λ i. flow areas matrix i j) + flow areas matrix i j ≤ area_total areas
  inflow_next i j hi hj = omega (arith, sum-next i (λ i. flow areas matrix i j), inflow_le (i + 1) j (omega arith) hj)

  module _ (factor : ℕ → ℕ → ℕ) (g : ℕ) (factor-le : (i j : ℕ) → factor i j ≤ g) where
    column_le : (n j : ℕ) → sum n (λ i. flow areas matrix i j * factor i j) ≤ sum n (λ i. flow areas matrix i j) * g
    column_le n j =
        le_trans (sum-le n (λ i. flow areas matrix i j * factor i j) (λ i. flow areas matrix i j * g) (λ i h. mul-le-mul_left (flow areas matrix i j) (factor-le i j)))
        (le_of_eq (sum-mul n (λ i. flow areas matrix i j) g))

    pub inflow_carbon-le : (n j : ℕ) → n ≤ classes → j < classes → sum n (λ i. flow areas matrix i j * factor i j) ≤ area_total areas * g
    inflow_carbon-le n j hn hj = le_trans (column_le n j) (mul-le-mul_right g (inflow_le n j hn hj))

    pub inflow_carbon-next : (i j : ℕ) → i < classes → j < classes → sum i (λ i. flow areas matrix i j * factor i j) + flow areas matrix i j * factor i j ≤ area_total areas * g
    inflow_carbon-next i j hi hj = omega (arith, sum-next i (λ i. flow areas matrix i j * factor i j), inflow_carbon-le (i + 1) j (omega arith) hj)

    -- the carbon of the first n columns
    pub columns_le : (n : ℕ) → n ≤ classes → sum n (inflow_carbon factor areas matrix) ≤ area_total areas * g
    unfolding inflow_carbon next_area
    columns_le n hn =
        le_trans (sum_part n classes (inflow_carbon factor areas matrix) hn)
        (le_trans (sum-le classes (inflow_carbon factor areas matrix) (λ j. next_area areas matrix j * g) (λ j h. column_le classes j))
        (le_trans (le_of_eq (sum-mul classes (next_area areas matrix) g)) (mul-le-mul_right g (omega (arith, next-total areas matrix, areas-kept)))))

    pub projected_carbon-le : projected_carbon factor areas matrix ≤ area_total areas * g
    projected_carbon-le = rw (← carbon_columns factor areas matrix) (columns_le classes (omega arith))
