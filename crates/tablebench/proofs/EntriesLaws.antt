-- A table's conversions and what they weigh, one after another.
-- Assumes nothing.
use Rattle.std.proofs.Common.{ℕ, ◌+◌, ◌*◌, ◌^◌, ◌≡◌, ◌<◌, ◌≤◌, List, [], map, length, get_or, sym, ◌∙◌, arith}
use Rattle.std.proofs.lemmas.List.{get_or-map, length-map}
use Rattle.std.proofs.Math.Nat.{mul-le-mul_left}
use Rattle.arithmetic.specs.Sum.{sum}
use Rattle.arithmetic.proofs.SumLaws.{sum-next, sum_part}
use Rattle.classes.specs.Classes.{greatest_stock}
use Rattle.classes.specs.Matrix.{entry}
use Rattle.figures.specs.Figures.{monitored_carbon}
use Rattle.figures.proofs.FiguresLaws.{monitored_places}
use Rattle.wire.specs.Bytes.{number, total}
use Rattle.wire.proofs.NumbersLaws.{total-entries}

-- the first k conversions of a table, from the bytes of each: their area, and their carbon by these factors
pub record SoFar (fields : List (List ℕ)) (factors : List ℕ) (k area carbon : ℕ) : Type 0 where
  pub area_is : area ≡ sum k (λ i. get_or (map number fields) i 0)
  pub carbon_is : carbon ≡ sum k (λ i. get_or (map number fields) i 0 * get_or factors i 0)
  pub area_fits : area ≤ k * 2 ^ 64
  pub carbon_fits : carbon ≤ area * greatest_stock

module _ (fields : List (List ℕ)) (factors : List ℕ) where
  entry_read : (k x : ℕ) → k < length fields → x ≡ number (get_or fields k []) → x ≡ get_or (map number fields) k 0
  entry_read k x there read = read ∙ sym (get_or-map number fields k [] 0 there)

  -- one more, its area x by the factor f
  pub one_more : (k area carbon x f : ℕ) → SoFar fields factors k area carbon → k < length fields → x ≡ number (get_or fields k []) → x < 2 ^ 64 → f ≡ get_or factors k 0 → get_or factors k 0 ≤ greatest_stock
      → SoFar fields factors (k + 1) (area + x) (carbon + x * f)
  one_more k area carbon x f so_far there read small weight fit =
      let this = entry_read k x there read in
      record {
        area_is = rw (sum-next k (λ i. get_or (map number fields) i 0), ← this, ← so_far.area_is);
        carbon_is = rw (sum-next k (λ i. get_or (map number fields) i 0 * get_or factors i 0), ← this, ← weight, ← so_far.carbon_is);
        area_fits = omega (arith, so_far.area_fits);
        carbon_fits = omega (arith, so_far.carbon_fits, mul-le-mul_left x (rw (← weight) at fit));
      }

  -- all of them
  module _ (long : length fields ≡ 144) where
    total_is : total (map number fields) ≡ sum 144 (λ i. get_or (map number fields) i 0)
    total_is = total-entries (map number fields) ∙ rw (length-map fields number, long)

    -- they come to at least the first of them
    pub part_le : (k area carbon x : ℕ) → SoFar fields factors k area carbon → k < length fields → x ≡ number (get_or fields k []) → area + x ≤ total (map number fields)
    part_le k area carbon x so_far there read =
        omega (arith, so_far.area_is, entry_read k x there read, sum-next k (λ i. get_or (map number fields) i 0), sum_part (k + 1) 144 (λ i. get_or (map number fields) i 0) (omega arith), total_is)

    module _ (k area carbon : ℕ) (so_far : SoFar fields factors k area carbon) (count : k ≡ 144) where
      pub area_of_all : total (map number fields) ≡ area
      area_of_all = total_is ∙ sym (rw count at so_far.area_is)

      pub carbon_of_all : monitored_carbon (entry factors) (map number fields) ≡ carbon
      carbon_of_all = sym (rw count at so_far.carbon_is ∙ monitored_places (map number fields) factors)
