-- What a row of a table comes to.
-- Serves contracts of inner functions and proofs; nothing here has to be believed. Assumes nothing.
use Rattle.std.specs.Prelude.{ℕ, ◌+◌, ◌*◌, List, [], get_or}
use Rattle.arithmetic.specs.Sum.{sum}
use Rattle.wire.specs.Bytes.{number}
use Rattle.tables.specs.declared.Row.{Row}

-- the area of a conversion, from the bytes of each
abbrev pub area_at : List (List ℕ) → ℕ → ℕ
area_at fields k = number (get_or fields k [])

-- the row of class from, by these factors
abbrev pub row_of : List (List ℕ) → List ℕ → ℕ → Row
row_of row factors from = record {
  area = record { 0 = sum 12 (area_at row) };
  carbon = record { 0 = sum 12 (λ to. area_at row to * get_or factors (12 * from + to) 0) };
}
