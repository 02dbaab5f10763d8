-- No two records in range have one key.
-- Assumes nothing.
use Prim.Native.Nat.{ℕ, ◌%◌}
use mathlib.Core.Path.{◌≡◌, ap}
use native.Mathlib.Omega.{arith}
use Rattle.activity.specs.Records.{Activity}
use Rattle.activity.specs.Records.Activity.{Fuel, Vehicles, Nitrogen, Lime, Residue}
use Rattle.activity.specs.Records.{FixingCrop}
use Rattle.activity.specs.declared.Words.{Words}
use Rattle.activity.specs.Activity.{ActivityInRange}
use Rattle.activity.specs.Key.{key}

-- which of the five a record is, by a number
data Is : ℕ → Activity → Type 0 where
  fuel : (kind grams : ℕ) → Is 0 (Fuel kind grams)
  vehicles : (kind count average rate : ℕ) → Is 1 (Vehicles kind count average rate)
  nitrogen : (source crop grams content : ℕ) → Is 2 (Nitrogen source crop grams content)
  lime : (material grams : ℕ) → Is 3 (Lime material grams)
  residue : (r : FixingCrop) → Is 4 (Residue r)

-- that number is the remainder of its low number by 8
variant : (a : Activity) → (k : ℕ) × ((key a).low % 8 ≡ k) × Is k a
unfolding key
variant (Fuel kind grams) = (0, omega arith, fuel kind grams)
variant (Vehicles kind count average rate) = (1, omega arith, vehicles kind count average rate)
variant (Nitrogen source crop grams content) = (2, omega arith, nitrogen source crop grams content)
variant (Lime material grams) = (3, omega arith, lime material grams)
variant (Residue r) = (4, omega arith, residue r)

-- two that are the same of the five
alike_tells : {k : ℕ} {a b : Activity} → Is k a → Is k b → ActivityInRange a → ActivityInRange b
    → (key a).low ≡ (key b).low → (key a).high ≡ (key b).high → a ≡ b
unfolding key
alike_tells (fuel kind grams) (fuel kind' grams') h h' e e' =
    let g : grams ≡ grams' = omega arith in
    let k : kind ≡ kind' = omega arith in
    cc
alike_tells (vehicles kind count average rate) (vehicles kind' count' average' rate') h h' e e' =
    let r : rate ≡ rate' = omega arith in
    let a : average ≡ average' = omega arith in
    let c : count ≡ count' = omega arith in
    let k : kind ≡ kind' = omega arith in
    cc
alike_tells (nitrogen source crop grams content) (nitrogen source' crop' grams' content') h h' e e' =
    let g : grams ≡ grams' = omega arith in
    let n : content ≡ content' = omega arith in
    let c : crop ≡ crop' = omega arith in
    let s : source ≡ source' = omega arith in
    cc
alike_tells (lime material grams) (lime material' grams') h h' e e' =
    let g : grams ≡ grams' = omega arith in
    let m : material ≡ material' = omega arith in
    cc
alike_tells (residue r) (residue r') h h' e e' =
    let area : r.area ≡ r'.area = omega arith in
    let harvest : r.harvest ≡ r'.harvest = omega arith in
    let above_content : r.above.content ≡ r'.above.content = omega arith in
    let below_content : r.below.content ≡ r'.below.content = omega arith in
    let renewed : r.renewed ≡ r'.renewed = omega arith in
    let above_ratio : r.above.ratio ≡ r'.above.ratio = omega arith in
    let below_ratio : r.below.ratio ≡ r'.below.ratio = omega arith in
    let crop : r.crop ≡ r'.crop = omega arith in
    λ i. Residue (record {
      crop = crop i;
      area = area i;
      harvest = harvest i;
      renewed = renewed i;
      above = record { ratio = above_ratio i; content = above_content i };
      below = record { ratio = below_ratio i; content = below_content i };
    })

pub key_tells : (a b : Activity) → ActivityInRange a → ActivityInRange b → key a ≡ key b → a ≡ b
key_tells a b h h' e =
    let (k, of-a, is-a) = variant a in
    let (k', of-b, is_b) = variant b in
    let same : k ≡ k' = cc in
    alike_tells (rw same at is-a) is_b h h' (ap (λ (w : Words). w.low) e) (ap (λ (w : Words). w.high) e)
