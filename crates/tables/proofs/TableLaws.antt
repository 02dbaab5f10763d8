-- A table's conversions and what they weigh, as far as they are read.
-- Assumes nothing.
use Rattle.std.proofs.Common.{ℕ, zero, suc, ◌+◌, ◌-◌, ◌*◌, ◌/◌, ◌^◌, ◌≡◌, ◌<◌, ◌≤◌, List, [], map, length, get_or, drop, All, inl, inr, sym, ap, subst, ◌∙◌, arith}
use Rattle.std.specs.Simd.{first_chunks}
use Rattle.std.proofs.lemmas.Bool.{cases_lt}
use Rattle.std.proofs.lemmas.List.{get_or-map, length-map, get_or_default, get_or-take, get_or-drop, length-take-le, length-drop}
use Rattle.std.proofs.Math.Nat.{mul-le-mul_left}
use Rattle.std.specs.Int.{w64, from_be_bytes}
use Rattle.arithmetic.specs.Sum.{sum}
use Rattle.arithmetic.proofs.SumLaws.{sum-none, sum-next, sum_part, sum_split, sum_cong}
use Rattle.classes.specs.Classes.{greatest_stock}
use Rattle.classes.specs.Matrix.{entry}
use Rattle.figures.specs.Figures.{monitored_carbon}
use Rattle.figures.proofs.FiguresLaws.{monitored_places}
use Rattle.wire.specs.Bytes.{number, total}
use Rattle.wire.proofs.EndianLaws.{from_be_is_number}
use Rattle.wire.proofs.NumbersLaws.{total-entries}
use Rattle.tables.specs.Rows.{area_at}

pub eight_bytes : (s : List ℕ) → length s ≡ 8 → from_be_bytes w64 s ≡ number s
eight_bytes s h = from_be_is_number w64 s h

-- the first k conversions of a row, none above most: their area, and their carbon by these factors
pub record RowSoFar (row : List (List ℕ)) (factor : ℕ → ℕ) (most k area carbon : ℕ) : Type 0 where
  pub area_is : area ≡ sum k (area_at row)
  pub carbon_is : carbon ≡ sum k (λ i. area_at row i * factor i)
  pub area_fits : area ≤ k * 10 ^ 12
  pub carbon_fits : carbon ≤ area * greatest_stock
  pub each : (i : ℕ) (d : List ℕ) → i < k → number (get_or row i d) ≤ most

pub none : (row : List (List ℕ)) (factor : ℕ → ℕ) (most : ℕ) → RowSoFar row factor most 0 0 0
none row factor most = record {
  area_is = sym (sum-none (area_at row));
  carbon_is = sym (sum-none (λ i. area_at row i * factor i));
  area_fits = omega arith;
  carbon_fits = omega arith;
  each = λ i d h. omega (arith, h);
}

-- one more, its area x, that sets the carbon units free
pub one_more : (row : List (List ℕ)) (factor : ℕ → ℕ) (most k area carbon x units : ℕ) → RowSoFar row factor most k area carbon → k < length row → x ≡ area_at row k → x ≤ most → most ≤ 10 ^ 12 → units ≡ x * factor k → factor k ≤ greatest_stock
    → RowSoFar row factor most (k + 1) (area + x) (carbon + units)
one_more row factor most k area carbon x units so_far there read low small weight fit = record {
  area_is = omega (arith, sum-next k (area_at row), read, so_far.area_is);
  carbon_is = omega (arith, sum-next k (λ i. area_at row i * factor i), rw read at weight, so_far.carbon_is);
  area_fits = omega (arith, so_far.area_fits);
  carbon_fits = omega (arith, so_far.carbon_fits, weight, mul-le-mul_left x fit);
  each = λ i d h. elim (cases_lt i k) [
    | inl front ↦ so_far.each i d front
    | inr last ↦
        let same : i ≡ k = omega arith in
        let here : number (get_or row k d) ≤ most = rw (get_or_default row k d [] there) (omega (arith, read)) in
        subst (λ (j : ℕ). number (get_or row j d) ≤ most) (sym same) here
  ];
}

-- an entry of a row is an entry of the whole
chunk_entry : {X : Type 0} (n k i j : ℕ) (xs : List X) (d : X) → i < k → j < n → get_or (get_or (first_chunks n k xs) i []) j d ≡ get_or xs (n * i + j) d
chunk_entry n zero i j xs d below in-row = absurd (omega arith)
chunk_entry n (suc k) zero j xs d below in-row = get_or-take n xs j d in-row ∙ ap (λ (m : ℕ). get_or xs m d) (omega arith)
chunk_entry n (suc k) (suc i) j xs d below in-row =
    chunk_entry n k i j (drop n xs) d (omega arith) in-row ∙ get_or-drop n xs (n * i + j) d ∙ ap (λ (m : ℕ). get_or xs m d) (omega arith)

chunk_length : {X : Type 0} (n k i : ℕ) (xs : List X) → i < k → k * n ≤ length xs → length (get_or (first_chunks n k xs) i []) ≡ n
chunk_length n zero i xs below enough = absurd (omega arith)
chunk_length n (suc k) zero xs below enough = length-take-le n xs (omega (arith, enough))
chunk_length n (suc k) (suc i) xs below enough = chunk_length n k i (drop n xs) (omega arith) (omega (arith, enough, length-drop n xs))

-- a table as far as its first k conversions: left of most, and their carbon
pub record SoFar (fields : List (List ℕ)) (factors : List ℕ) (most k left carbon : ℕ) : Type 0 where
  pub left_is : left + sum k (area_at fields) ≡ most
  pub carbon_is : carbon ≡ sum k (λ i. area_at fields i * get_or factors i 0)
  pub carbon_fits : carbon + left * greatest_stock ≤ most * greatest_stock

pub at_first : (fields : List (List ℕ)) (factors : List ℕ) (most : ℕ) → SoFar fields factors most 0 most 0
at_first fields factors most = record {
  left_is = omega (arith, sum-none (area_at fields));
  carbon_is = sym (sum-none (λ i. area_at fields i * get_or factors i 0));
  carbon_fits = omega arith;
}

module _ (fields : List (List ℕ)) (rows : List (List (List ℕ))) (long : length fields ≡ 144) (front : rows ≡ first_chunks 12 (length fields / 12) fields) where
  read : (i j : ℕ) (d : List ℕ) → i < 12 → j < 12 → get_or (get_or rows i []) j d ≡ get_or fields (12 * i + j) d
  read i j d below in-row =
      let twelve : length fields / 12 ≡ 12 = omega (arith, long) in
      rw (front, twelve) (chunk_entry 12 12 i j fields d below in-row)

  row_length : (i : ℕ) → i < 12 → length (get_or rows i []) ≡ 12
  row_length i below =
      let twelve : length fields / 12 ≡ 12 = omega (arith, long) in
      rw (front, twelve) (chunk_length 12 12 i fields below (omega (arith, long)))

  total_is : total (map number fields) ≡ sum 144 (area_at fields)
  total_is =
      let count : length (map number fields) ≡ 144 = length-map fields number ∙ long in
      rw count at (total-entries (map number fields)) ∙ sum_cong 144 (λ i. get_or (map number fields) i 0) (area_at fields) (λ i h. get_or-map number fields i [] 0 (omega (arith, long)))

  module _ (i : ℕ) (below : i < 12) where
    row_area : sum (12 * (i + 1)) (area_at fields) ≡ sum (12 * i) (area_at fields) + sum 12 (area_at (get_or rows i []))
    row_area =
        let next : 12 * (i + 1) ≡ 12 * i + 12 = omega arith in
        rw next (omega (arith, sum_split (12 * i) 12 (area_at fields), sum_cong 12 (area_at (get_or rows i [])) (λ j. area_at fields (12 * i + j)) (λ j h. ap number (read i j [] below h))))

    row_carbon : (f : ℕ → ℕ) → sum (12 * (i + 1)) (λ k. area_at fields k * f k) ≡ sum (12 * i) (λ k. area_at fields k * f k) + sum 12 (λ j. area_at (get_or rows i []) j * f (12 * i + j))
    row_carbon f =
        let next : 12 * (i + 1) ≡ 12 * i + 12 = omega arith in
        rw next (omega (
          arith,
          sum_split (12 * i) 12 (λ k. area_at fields k * f k),
          sum_cong 12 (λ j. area_at (get_or rows i []) j * f (12 * i + j)) (λ j. area_at fields (12 * i + j) * f (12 * i + j)) (λ j h. ap (λ (x : ℕ). x * f (12 * i + j)) (ap number (read i j [] below h))),
        ))

    -- so an entry above the total, or a row above what is left of it, is more than the total
    pub entry_over : (most : ℕ) → (All (λ conversion. number conversion ≤ most) (get_or rows i []) → ⊥) → total (map number fields) ≡ most → ⊥
    entry_over most above same = above (λ j d in-row.
        let twelve : length (get_or rows i []) ≡ 12 = row_length i below in
        let here : number (get_or (get_or rows i []) j d) ≡ area_at fields (12 * i + j) = ap number (read i j d below (omega (arith, in-row, twelve)) ∙ get_or_default fields (12 * i + j) d [] (omega (arith, long, in-row, twelve))) in
        omega (arith, here, same, total_is, sum-next (12 * i + j) (area_at fields), sum_part (12 * i + j + 1) 144 (area_at fields) (omega (arith, in-row, twelve))))

    module _ (factors : List ℕ) (most left carbon : ℕ) (so_far : SoFar fields factors most (12 * i) left carbon) where
      pub row_over : left < sum 12 (area_at (get_or rows i [])) → total (map number fields) ≡ most → ⊥
      row_over more same = omega (arith, so_far.left_is, more, same, total_is, row_area, sum_part (12 * (i + 1)) 144 (area_at fields) (omega arith))

      pub one_row : (area units : ℕ) → area ≡ sum 12 (area_at (get_or rows i [])) → units ≡ sum 12 (λ j. area_at (get_or rows i []) j * get_or factors (12 * i + j) 0) → units ≤ area * greatest_stock → area ≤ left
          → SoFar fields factors most (12 * (i + 1)) (left - area) (carbon + units)
      one_row area units area_is carbon_is fits low = record {
        left_is = omega (arith, so_far.left_is, row_area, area_is);
        carbon_is = omega (arith, so_far.carbon_is, row_carbon (λ k. get_or factors k 0), carbon_is);
        carbon_fits = omega (arith, so_far.carbon_fits, fits);
      }

  -- all of them
  module _ (factors : List ℕ) (most left carbon i : ℕ) (all : i ≡ 12) (so_far : SoFar fields factors most (12 * i) left carbon) where
    pub total_of_all : left + total (map number fields) ≡ most
    total_of_all =
        let count : 12 * i ≡ 144 = omega (arith, all) in
        omega (arith, total_is, rw count at so_far.left_is)

    pub carbon_of_all : carbon ≡ monitored_carbon (entry factors) (map number fields)
    carbon_of_all =
        let count : 12 * i ≡ 144 = omega (arith, all) in
        rw count at so_far.carbon_is
        ∙ sum_cong 144 (λ k. area_at fields k * get_or factors k 0) (λ k. get_or (map number fields) k 0 * get_or factors k 0) (λ k h. ap (λ (x : ℕ). x * get_or factors k 0) (sym (get_or-map number fields k [] 0 (omega (arith, long)))))
        ∙ monitored_places (map number fields) factors
