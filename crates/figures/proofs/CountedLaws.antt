-- The factors that count for monitored conversions, and both tables of factors.
-- Assumes nothing.
use mathlib.Core.Path.{◌≡◌}
use mathlib.Core.Bool.{Bool, true, false, cond}
use Prim.Native.Nat.{ℕ, ◌≤◌}
use native.Mathlib.Nat.{le_trans}
use native.Mathlib.Omega.{arith}
use lib.Dec.{eqb}
use lib.ListN.{get_or}
use mathlib.Core.List.{List}
use Rattle.classes.specs.Classes.{class_nf, emission_factor, greatest_stock}
use Rattle.classes.specs.Matrix.{entry, table_of}
use Rattle.classes.proofs.MatrixLaws.{entry-table_of, table_of_cong}
use Rattle.classes.proofs.FactorLaws.{factor_le, table_le, table-are_factors}
use Rattle.classes.specs.Ranges.{FactorsFit, IsStocks, AreFactors}
use Rattle.figures.specs.Figures.{counted_factor}

-- those of a table of factors are those of its factors
pub counted_table : (option : ℕ) (factor : ℕ → ℕ → ℕ) → table_of (counted_factor option (entry (table_of factor))) ≡ table_of (counted_factor option factor)
unfolding counted_factor
counted_table option factor = table_of_cong (counted_factor option (entry (table_of factor))) (counted_factor option factor) (λ i j hi hj. rw (entry-table_of factor i j hi hj))

-- ---- ranges: none is above the factor itself
pub counted-le : (option : ℕ) (factor : ℕ → ℕ → ℕ) (i j : ℕ) → counted_factor option factor i j ≤ factor i j
unfolding counted_factor
counted-le option factor i j = pick (eqb option 1) (eqb j class_nf)
  where
    pick : (a b : Bool) → cond a (cond b (factor i j) 0) (factor i j) ≤ factor i j
    pick true true = omega arith
    pick true false = omega arith
    pick false b = omega arith

-- by stocks of at most the greatest
module _ (stocks : List ℕ) (fit : (i : ℕ) → get_or stocks i 0 ≤ greatest_stock) where
  pub small-counted : (option i j : ℕ) → counted_factor option (emission_factor stocks) i j ≤ greatest_stock
  small-counted option i j = le_trans (counted-le option (emission_factor stocks) i j) (factor_le stocks greatest_stock fit i j)

  pub factors_fit : FactorsFit (table_of (emission_factor stocks))
  factors_fit k = table_le (emission_factor stocks) greatest_stock (factor_le stocks greatest_stock fit) k

  pub counted-fit : (option : ℕ) → FactorsFit (table_of (counted_factor option (emission_factor stocks)))
  counted-fit option k = table_le (counted_factor option (emission_factor stocks)) greatest_stock (small-counted option) k

-- what holds of the Factors of the code
pub counted_are_factors : (option : ℕ) (stocks : List ℕ) → IsStocks stocks → AreFactors (table_of (counted_factor option (emission_factor stocks)))
counted_are_factors option stocks fit = table-are_factors (counted_factor option (emission_factor stocks)) (small-counted stocks fit.small option)
