-- The ladder of ranges: the greatest carbon and grams of each kind, by which every sum, difference and product of a reckoning fits 64 bits.
-- It stands on `greatest_area` and `greatest_stock`, in Classes; each rung holds what those below it make (proofs/RangeLaws); the contracts of all crates cite them.
-- A rung may have room to spare.
-- Serves contracts of inner functions and proofs; nothing here has to be believed. Assumes nothing.
use Rattle.std.specs.Prelude.{ℕ, ◌≡◌, ◌≤◌, ◌<◌, List, length, get_or}
use Rattle.arithmetic.specs.Sum.{sum}
use Rattle.classes.specs.Classes.{classes, greatest_stock}
use Rattle.classes.specs.Matrix.{entry, million}

-- carbon units: the greatest area by the greatest factor, that from a class of the greatest stock into one of 0
abbrev pub greatest_carbon : ℕ
greatest_carbon = 50_000_000_000_000_000

-- grams that carbon makes, × 11 ÷ 300: a reference level, the emissions of a table
abbrev pub greatest_emissions : ℕ
greatest_emissions = 1_833_333_333_333_334

-- grams of one activity record. (Those of FU, VE, NI and LI are below 4 × 10^12, those of CR below 6 × 10^12.)
abbrev pub greatest_record : ℕ
greatest_record = 3_230_000_000_000_000

-- grams of a year's activity records, 60 at most
abbrev pub greatest_activity : ℕ
greatest_activity = 193_800_000_000_000_000

-- grams of any of a year's eight figures, of either sign
abbrev pub greatest_figure : ℕ
greatest_figure = 210_000_000_000_000_000

-- grams of the total of 20 years, of either sign
abbrev pub greatest_total : ℕ
greatest_total = 4_200_000_000_000_000_000

-- no row of a matrix sums to more than 1,000,000
abbrev pub RowsWithin : List ℕ → Type 0
RowsWithin matrix = (i : ℕ) → i < classes → sum classes (entry matrix i) ≤ million

-- no factor is above the greatest stock
abbrev pub FactorsFit : List ℕ → Type 0
FactorsFit factors = (k : ℕ) → get_or factors k 0 ≤ greatest_stock

-- ---- what is true of every Stocks, Matrix and Factors of the code
pub record IsStocks (stocks : List ℕ) : Type 0 where
  pub twelve : length stocks ≡ 12
  pub small : (i : ℕ) → get_or stocks i 0 ≤ greatest_stock

pub record IsMatrix (matrix : List ℕ) : Type 0 where
  pub long : length matrix ≡ 144
  pub rows : RowsWithin matrix

pub record AreFactors (factors : List ℕ) : Type 0 where
  pub long : length factors ≡ 144
  pub small : FactorsFit factors
