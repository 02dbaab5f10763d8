-- No emission factor is above a bound of its stocks, nor above the greatest of them; and no built-in stock is above the greatest that may be filed.
-- Assumes nothing.
use mathlib.Core.Bool.{Bool, true, false, cond, ◌||◌}
use mathlib.Core.List.{List, [], ◌∷◌}
use Prim.Native.Nat.{ℕ, zero, suc, ◌+◌, ◌-◌, ◌/◌, ◌%◌, ◌≤◌, ◌<◌}
use native.Mathlib.Omega.{arith}
use lib.Dec.{eqb}
use mathlib.Core.Path.{◌≡◌, refl, sym, ◌∙◌}
use lib.ListN.{length, take, set, get_or, replicate}
use lib.Seq.{take_all}
use Rattle.std.proofs.Math.ListN.{length-set}
use Rattle.std.proofs.lemmas.List.{take_more, take_more_set}
use Rattle.arithmetic.proofs.SumLaws.{length-listed, listed_le}
use Rattle.arithmetic.proofs.TableLaws.{at_most, entry-le}
use Rattle.classes.specs.Classes.{class_tp, class_pp, carbon_stocks, emission_factor, greatest_in, greatest_stock}
use Rattle.classes.specs.Matrix.{table_of}
use Rattle.classes.specs.Ranges.{IsStocks, AreFactors}

pub factor_le : (stocks : List ℕ) (S : ℕ) → ((i : ℕ) → get_or stocks i 0 ≤ S) → (i j : ℕ) → emission_factor stocks i j ≤ S
unfolding emission_factor
factor_le stocks S h i j = go (eqb j class_tp || eqb j class_pp)
  where
    go : (b : Bool) → cond b 0 (get_or stocks i 0 - get_or stocks j 0) ≤ S
    go true = omega arith
    go false = omega (arith, h i)

-- the greatest stock of a list: no stock is above it, nor any factor
pub stock_le : (stocks : List ℕ) (i : ℕ) → get_or stocks i 0 ≤ greatest_in stocks
unfolding greatest_in
stock_le [] i = omega arith
stock_le (stock ∷ rest) zero = omega arith
stock_le (stock ∷ rest) (suc i) = omega (arith, stock_le rest i)

pub greatest_factor : (stocks : List ℕ) (i j : ℕ) → emission_factor stocks i j ≤ greatest_in stocks
greatest_factor stocks = factor_le stocks (greatest_in stocks) (stock_le stocks)

pub built_in_le : (i : ℕ) → get_or carbon_stocks i 0 ≤ greatest_stock
unfolding carbon_stocks at_most
built_in_le = entry-le greatest_stock carbon_stocks tt

-- the built-in stocks taken one by one: the first k are taken
pub record BuiltInBelow (stocks : List ℕ) (k : ℕ) : Type 0 where
  pub twelve : length stocks ≡ 12
  pub same : take k stocks ≡ take k carbon_stocks

pub built_in_next : (stocks : List ℕ) (k stock : ℕ) → k < 12 → BuiltInBelow stocks k → stock ≡ get_or carbon_stocks k 0 → BuiltInBelow (set stocks k stock) (k + 1)
unfolding carbon_stocks
built_in_next stocks k stock few below is_stock = record {
  twelve = length-set stocks k stock ∙ below.twelve;
  same = take_more_set stocks k stock (omega (arith, below.twelve)) ∙ rw (below.same, is_stock) (sym (take_more carbon_stocks k 0 few));
}

pub built_in_whole : (stocks : List ℕ) → BuiltInBelow stocks 12 → stocks ≡ carbon_stocks
unfolding carbon_stocks
built_in_whole stocks below = sym (take_all 12 stocks (omega (arith, below.twelve))) ∙ below.same

pub built_in_are_stocks : {stocks : List ℕ} → stocks ≡ carbon_stocks → IsStocks stocks
unfolding carbon_stocks
built_in_are_stocks same = rw (same) (record { twelve = refl; small = built_in_le })

-- no entry of a table of f is above a bound of f
pub table_le : (f : ℕ → ℕ → ℕ) (g : ℕ) → ((i j : ℕ) → f i j ≤ g) → (k : ℕ) → get_or (table_of f) k 0 ≤ g
table_le f g h = listed_le 144 (λ k. f (k / 12) (k % 12)) g (λ k. h (k / 12) (k % 12))

-- ---- what holds of the Factors of the code
module _ (f : ℕ → ℕ → ℕ) (small : (i j : ℕ) → f i j ≤ greatest_stock) where
  pub table-are_factors : AreFactors (table_of f)
  table-are_factors = record { long = length-listed 144 (λ k. f (k / 12) (k % 12)); small = table_le f greatest_stock small }

pub emission_are_factors : (stocks : List ℕ) → IsStocks stocks → AreFactors (table_of (emission_factor stocks))
emission_are_factors stocks fit = table-are_factors (emission_factor stocks) (factor_le stocks greatest_stock fit.small)

pub zeros_are_factors : AreFactors (replicate 144 0)
unfolding at_most
zeros_are_factors = record { long = refl; small = entry-le greatest_stock (replicate 144 0) tt }
