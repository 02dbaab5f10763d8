-- The rounded and the unrounded projection of a region side by side, for any area list and any matrix whose rows sum to 1,000,000.
-- Assumes nothing.
use Rattle.std.proofs.Common.{◌≡◌, ap, List, ℕ, suc, ◌+◌, ◌*◌, ◌≤◌, ◌<◌, zero-lt-suc, mul-le-mul_right, mul-pos, le_of_eq, arith, lit<, pos}
use Rattle.arithmetic.specs.Sum.{sum}
use Rattle.arithmetic.specs.Fraction.{Fraction, whole, ◌×ᶠ◌, fraction_sum}
use Rattle.arithmetic.proofs.SumLaws.{sum-mul, sum_swap, sum2}
use Rattle.arithmetic.proofs.RatioLaws.{Ratio, ratio-whole, ratio_times, ratio_divided, ratio-fraction_sum, ratio-above}
use Rattle.classes.specs.Classes.{classes}
use Rattle.classes.specs.Matrix.{entry, million, RowsSum}
use Rattle.projection.specs.declared.Region.{Region}
use Rattle.projection.specs.Projection.{area, area_total, flow, next_area, next_areas, projected_carbon, lost_area, projected_region}
use Rattle.projection.proofs.FlowLaws as F
use Rattle.projection.proofs.ProjectionLaws.{million_pos, next_area_lem, areas-kept}
use Rattle.assurance.specs.Unrounded.{fraction_flow, fraction_carbon, fraction_next_areas}
use Rattle.assurance.specs.Assurance.{RegionAssured}

-- after y years from a starting area: a region, and its unrounded areas, which are the naturals a over n
pub record Follows (y start : ℕ) (region : Region) (areasᶠ : ℕ → Fraction) : Type 0 where
  pub n : ℕ
  pub n_pos : 0 < n
  pub a : ℕ → ℕ
  pub ratio : (i : ℕ) → i < classes → Ratio (areasᶠ i) (a i) n
  pub below : (i : ℕ) → i < classes → area region.areas i * n ≤ a i
  pub total : sum classes a ≡ start * n
  pub kept : area_total region.areas + region.balance.0 ≡ start
  pub small : region.balance.0 ≤ 132 * y

pub opened_follows : (region : Region) → region.balance.0 ≡ 0 → Follows 0 (area_total region.areas) region (λ i. whole (pos (area region.areas i)))
opened_follows region z = record {
  n = 1;
  n_pos = zero-lt-suc 0;
  a = λ i. area region.areas i * 1;
  ratio = λ i h. ratio-whole (area region.areas i) 1;
  below = λ i h. omega arith;
  total = sum-mul classes (area region.areas) 1;
  kept = omega arith;
  small = omega arith;
}

pub follows_assured : (y start : ℕ) (region : Region) (areasᶠ : ℕ → Fraction) → Follows y start region areasᶠ → RegionAssured y start region.areas region.balance.0 areasᶠ
follows_assured y start region areasᶠ s = record { area-kept = s.kept; not-above = λ i h. ratio-above (area region.areas i) s.n_pos (s.ratio i h) (s.below i h); small = s.small }

gap-closed : (v C W U G N S B K : ℕ) → v + W * N * G ≤ C * N + U * G → U ≡ S * N → W + B ≡ S → B ≤ K → v ≤ (C + G * K) * N
gap-closed v C W U G N S B K h u w b = omega (arith, ap (λ (t : ℕ). t * G) u, ap (λ (t : ℕ). t * (N * G)) w, mul-le-mul_right (N * G) b)

module _ (y start : ℕ) (region : Region) (areasᶠ : ℕ → Fraction) (s : Follows y start region areasᶠ) (matrix : List ℕ) (rows : RowsSum matrix) where
  abbrev A : ℕ → ℕ
  A i = area region.areas i

  abbrev lost : ℕ
  lost = lost_area region.areas matrix

  flow-ratio : (i j : ℕ) → i < classes → Ratio (fraction_flow areasᶠ matrix i j) (s.a i * entry matrix i j) (s.n * million)
  unfolding fraction_flow
  flow-ratio i j h = ratio_divided million (lit< tt) (ratio_times (entry matrix i j) (s.ratio i h))

  next-kept : area_total (next_areas region.areas matrix) + (region.balance.0 + lost) ≡ start
  next-kept = omega (arith, areas-kept region.areas matrix (λ i h. le_of_eq (rows i h)), s.kept)

  -- all the rounded flows, and what rounding has lost with this year, make up the starting area
  flows_kept : sum2 classes (flow region.areas matrix) + (region.balance.0 + lost) ≡ start
  unfolding lost_area
  flows_kept = omega (arith, F.kept classes million million_pos A (entry matrix) (λ i h. le_of_eq (rows i h)), sum_swap classes classes (flow region.areas matrix), s.kept)

  lost-le : lost ≤ 132
  unfolding lost_area
  lost-le = F.loss-le classes million million_pos A (entry matrix) (zero-lt-suc 11) rows

  unrounded_kept : sum classes (λ j. sum classes (λ i. s.a i * entry matrix i j)) ≡ start * (s.n * million)
  unrounded_kept = omega (arith, F.next-total classes million million_pos A (entry matrix) rows s.n s.a s.below, ap (λ (t : ℕ). t * million) s.total)

  pub year_follows : Follows (suc y) start (projected_region matrix region) (fraction_next_areas areasᶠ matrix)
  unfolding projected_region fraction_next_areas next_area
  year_follows = record {
    n = s.n * million;
    n_pos = mul-pos s.n_pos million_pos;
    a = λ j. sum classes (λ i. s.a i * entry matrix i j);
    ratio = λ j h. ratio-fraction_sum classes (λ i. fraction_flow areasᶠ matrix i j) (λ i. s.a i * entry matrix i j) (λ i h'. flow-ratio i j h');
    below = λ j h. rw (next_area_lem region.areas matrix j h) (F.next-below classes million million_pos A (entry matrix) rows s.n s.a s.below j);
    total = unrounded_kept;
    kept = next-kept;
    small = omega (arith, lost-le, s.small);
  }

  -- carbon by factors of at most G. The unrounded one is a natural over n × 1,000,000
  module _ (factor : ℕ → ℕ → ℕ) (G : ℕ) (factor-le : (i j : ℕ) → factor i j ≤ G) where
    abbrev pub carbon-over : ℕ
    carbon-over = sum2 classes (λ i j. s.a i * entry matrix i j * factor i j)

    pub carbon-ratio : Ratio (fraction_carbon factor areasᶠ matrix) carbon-over (s.n * million)
    unfolding fraction_carbon
    carbon-ratio = ratio-fraction_sum classes (λ i. fraction_sum classes (λ j. fraction_flow areasᶠ matrix i j ×ᶠ factor i j)) (λ i. sum classes (λ j. s.a i * entry matrix i j * factor i j))
        (λ i h. ratio-fraction_sum classes (λ j. fraction_flow areasᶠ matrix i j ×ᶠ factor i j) (λ j. s.a i * entry matrix i j * factor i j) (λ j h'. ratio_times (factor i j) (flow-ratio i j h)))

    pub carbon-low : projected_carbon factor region.areas matrix * (s.n * million) ≤ carbon-over
    unfolding projected_carbon
    carbon-low = F.carbon-below classes million million_pos A (entry matrix) rows s.n s.a s.below G factor factor-le

    pub carbon-high : carbon-over ≤ (projected_carbon factor region.areas matrix + G * (132 * suc y)) * (s.n * million)
    unfolding projected_carbon
    carbon-high =
        let flows = sum2 classes (flow region.areas matrix) in
        let unrounded = sum2 classes (λ i j. s.a i * entry matrix i j) in
        gap-closed carbon-over (projected_carbon factor region.areas matrix) flows unrounded G (s.n * million) start (region.balance.0 + lost) (132 * suc y)
        (F.carbon-gap classes million million_pos A (entry matrix) rows s.n s.a s.below G factor factor-le)
        (omega (arith, sum_swap classes classes (λ i j. s.a i * entry matrix i j), unrounded_kept))
        flows_kept
        (omega (arith, lost-le, s.small))
