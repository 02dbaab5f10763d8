-- A table filled by a function of the code, entry by entry.
-- Serves contracts of inner functions and proofs; nothing here has to be believed. Assumes nothing.
use Rattle.std.specs.Prelude.{◌≡◌, ℕ, ◌/◌, ◌%◌, ◌<◌, List, length, get_or}
use Rattle.classes.specs.Classes.{classes}

-- a fact of a row and a column that holds of every pair of classes
abbrev pub TakesClasses : (ℕ → ℕ → Type 0) → Type 0
TakesClasses Holds = (i j : ℕ) → i < classes → j < classes → Holds i j

-- the number at each place is a result for its row and column
pub record IsTableBy (Result : (row column number : ℕ) → Type 0) (table : List ℕ) : Type 0 where
  pub long : length table ≡ 144
  pub each : (k : ℕ) → k < 144 → Result (k / 12) (k % 12) (get_or table k 0)
