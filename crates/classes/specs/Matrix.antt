-- Document 01, "Classes and factors": tables of 144 numbers, row i to column j, row by row; Option 1's matrix.
-- To be believed. Assumes nothing.
use Rattle.std.specs.Prelude.{◌≡◌, ℕ, ◌+◌, ◌-◌, ◌*◌, ◌/◌, ◌%◌, ◌<◌, cond, List, eqb, get_or}
use Rattle.arithmetic.specs.Sum.{sum, listed}
use Rattle.classes.specs.Classes.{classes, class_nf, deforestation_probabilities}

-- the entry in row i and column j
abbrev pub entry : (table : List ℕ) (i j : ℕ) → ℕ
entry table i j = get_or table (12 * i + j) 0

-- the table of f i j: the one at place k stands in row k / 12 and column k % 12
abbrev pub table_of : (ℕ → ℕ → ℕ) → List ℕ
table_of f = listed 144 (λ k. f (k / 12) (k % 12))

-- probabilities are in millionths
abbrev pub million : ℕ
million = 1_000_000

-- each row sums to 1,000,000
abbrev pub RowsSum : List ℕ → Type 0
RowsSum matrix = (i : ℕ) → i < classes → sum classes (entry matrix i) ≡ million

-- Option 1: the number of table 4 in column NF, the rest of the row on the diagonal. (NF's number is 0, so NF stays NF.)
unfoldable pub option_one : (i j : ℕ) → ℕ
option_one i j = cond (eqb j i) (million - get_or deforestation_probabilities i 0) (cond (eqb j class_nf) (get_or deforestation_probabilities i 0) 0)

unfoldable pub option_one_matrix : List ℕ
option_one_matrix = table_of option_one
