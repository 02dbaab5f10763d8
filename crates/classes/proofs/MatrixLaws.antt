-- Tables by row and column; Option 1's rows.
-- Assumes nothing.
use mathlib.Core.Path.{◌≡◌, refl, ◌∙◌}
use Prim.Native.Nat.{ℕ, ◌+◌, ◌*◌, ◌/◌, ◌%◌, ◌≤◌, ◌<◌}
use native.Mathlib.Nat.{le_trans, le_of_eq}
use native.Mathlib.Omega.{arith}
use mathlib.Core.List.{List}
use lib.Dec.{eqb, eqb→eq, leb, leb→le}
use lib.ListN.{get_or, replicate}
use Rattle.arithmetic.specs.Sum.{sum, listed}
use Rattle.arithmetic.proofs.SumLaws.{length-listed, get_or-listed, listed_cong, term_le}
use Rattle.arithmetic.proofs.TableLaws.{all, all-at, at_most, entry-le}
use Rattle.classes.specs.Classes.{classes, deforestation_probabilities}
use Rattle.classes.specs.Matrix.{entry, table_of, million, RowsSum, option_one, option_one_matrix}
use Rattle.classes.specs.Ranges.{RowsWithin, IsMatrix}

pub entry-table_of : (f : ℕ → ℕ → ℕ) (i j : ℕ) → i < classes → j < classes → entry (table_of f) i j ≡ f i j
entry-table_of f i j hi hj =
    let row : (12 * i + j) / 12 ≡ i = omega arith in
    let column : (12 * i + j) % 12 ≡ j = omega arith in
    get_or-listed 144 (λ k. f (k / 12) (k % 12)) (12 * i + j) 0 (omega arith) ∙ rw (row, column)

pub table_of_cong : (f g : ℕ → ℕ → ℕ) → ((i j : ℕ) → i < classes → j < classes → f i j ≡ g i j) → table_of f ≡ table_of g
table_of_cong f g e = listed_cong 144 (λ k. f (k / 12) (k % 12)) (λ k. g (k / 12) (k % 12)) (λ k h. e (k / 12) (k % 12) (omega arith) (omega arith))

-- no entry is above 1, where no row is
pub probability_le : (matrix : List ℕ) → RowsWithin matrix → (i j : ℕ) → i < classes → j < classes → entry matrix i j ≤ million
probability_le matrix rows i j hi hj = le_trans (term_le classes (entry matrix i) j hj) (rows i hi)

-- ---- by computed tests: no probability is above 1, and each row sums to 1
pub deforestation_le : (i : ℕ) → get_or deforestation_probabilities i 0 ≤ million
unfolding deforestation_probabilities at_most
deforestation_le = entry-le million deforestation_probabilities tt

pub option_one-rows : RowsSum option_one_matrix
unfolding all sum listed deforestation_probabilities option_one option_one_matrix
option_one-rows i h = eqb→eq (sum classes (entry option_one_matrix i)) million (all-at classes (λ i. eqb (sum classes (entry option_one_matrix i)) million) tt i h)

-- ---- what holds of a Matrix of the code
pub option_one_is_matrix : IsMatrix option_one_matrix
unfolding option_one_matrix
option_one_is_matrix = record { long = length-listed 144 (λ k. option_one (k / 12) (k % 12)); rows = λ i h. le_of_eq (option_one-rows i h) }

pub zeros_are_matrix : IsMatrix (replicate 144 0)
unfolding all sum
zeros_are_matrix = record { long = refl; rows = λ i h. leb→le _ _ (all-at classes (λ i. leb (sum classes (entry (replicate 144 0) i)) million) tt i h) }
