-- The bounds of an activity record's grams and of their sum, for records in range; and the grams of CR without the factor 7.
-- Assumes nothing.
use mathlib.Core.Path.{◌≡◌, sym}
use mathlib.Core.List.{List, [], ◌∷◌}
use Prim.Native.Nat.{ℕ, ◌+◌, ◌*◌, ◌/◌, ◌≤◌, ◌<◌}
use native.Mathlib.Nat.{mul-le-mul, mul_assoc}
use native.Mathlib.Omega.{arith}
use lib.Dec.{T, leb, leb→le, eqb, eqb→eq, lit≤}
use lib.ListN.{length}
use Rattle.arithmetic.specs.Rounding.{ceil_div}
use Rattle.arithmetic.proofs.RoundingLaws.{ceil_div-le, cancel_up}
use Rattle.arithmetic.proofs.TableLaws.{all, all-at}
use Rattle.classes.specs.Ranges.{greatest_record}
use Rattle.activity.specs.Records.{Activity}
use Rattle.activity.specs.Records.{FixingCrop}
use Rattle.activity.specs.Records.Activity.{Fuel, Vehicles, Nitrogen, Lime, Residue}
use Rattle.activity.specs.Activity.{
  Within,
  fuel_factor,
  n2o_share,
  lime_factor,
  residue_nitrogen,
  ActivityInRange,
  ActivitiesInRange,
  numerator,
  denominator,
  activity_grams,
  activity_emissions,
}

-- ---- no factor of a kind from 1 to 3 is above the greatest, by computed tests
kind_le : (f : ℕ → ℕ) (greatest : ℕ) → T (all 4 (λ x. leb (f x) greatest)) → (x : ℕ) → Within 1 x 3 → f x ≤ greatest
kind_le f greatest t x h = leb→le (f x) greatest (all-at 4 (λ x. leb (f x) greatest) t x (omega arith))

n2o_share-le : (source crop : ℕ) → Within 1 source 3 → Within 1 crop 2 → n2o_share source crop ≤ 1425
unfolding all
n2o_share-le source crop h k = kind_le (λ s. n2o_share s crop) 1425 (all-at 3 (λ c. all 4 (λ s. leb (n2o_share s c) 1425)) tt crop (omega arith)) source h

-- ---- a factor or a weight within its bound keeps the grams within theirs
pub factored_le : (grams factor divisor : ℕ) → grams ≤ 1000000000000 → factor ≤ 4 * divisor → 1 ≤ divisor → ceil_div (grams * factor) divisor ≤ greatest_record
factored_le grams factor divisor g f d = ceil_div-le _ _ _ d (omega (arith, mul-le-mul g f))

pub factor_grams_le : {grams factor greatest divisor : ℕ} → grams ≤ 1000000000000 → factor ≤ greatest → greatest ≤ 4 * divisor → 0 < divisor
    → ceil_div (grams * factor) divisor ≤ greatest_record
factor_grams_le g f b d = ceil_div-le _ _ _ d (omega (arith, mul-le-mul g f))

pub weighed_le : (nitrogen weight divisor : ℕ) → nitrogen ≤ 10000000 * divisor → weight ≤ 4671150 → 1 ≤ divisor
    → ceil_div (nitrogen * weight) divisor ≤ greatest_record
weighed_le nitrogen weight divisor n w d = ceil_div-le _ _ _ d (omega (arith, mul-le-mul n w))

-- ---- CR: its nitrogen's bound; its share is a multiple of 7, so that the quotient by 7 × 10^12 is one by 10^12
pub part_le : {ratio content : ℕ} → ratio ≤ 500 → content ≤ 10000 → ratio * content ≤ 5000000
part_le r c = omega (arith, mul-le-mul r c)

pub parts_le : {ratio content ratio' content' : ℕ} → ratio ≤ 500 → content ≤ 10000 → ratio' ≤ 500 → content' ≤ 10000
    → ratio * content + ratio' * content' ≤ 10000000
parts_le r c r' c' = omega (arith, part_le r c, part_le r' c')

pub product_le : {grown renewed parts : ℕ} → grown ≤ 100000000 → renewed ≤ 10000 → parts ≤ 10000000 → grown * renewed * parts ≤ 10000000000000000000
product_le g r p = omega (arith, mul-le-mul (mul-le-mul g r) p)

pub residue_nitrogen-le : (r : FixingCrop) → ActivityInRange (Residue r) → residue_nitrogen r ≤ 10000000000000000000
residue_nitrogen-le r h = product_le (omega arith) (omega arith) (parts_le (omega arith) (omega arith) (omega arith) (omega arith))

residue_share : (crop : ℕ) → Within 1 crop 2 → n2o_share 3 crop ≡ 7 * (n2o_share 3 crop / 7)
unfolding all
residue_share crop h = eqb→eq _ _ (all-at 3 (λ c. eqb (n2o_share 3 c) (7 * (n2o_share 3 c / 7))) tt crop (omega arith))

pub residue_cancelled : (nitrogen crop share : ℕ) → Within 1 crop 2 → share ≡ n2o_share 3 crop
    → ceil_div (nitrogen * (share / 7 * 3278)) 1000000000000 ≡ ceil_div (nitrogen * n2o_share 3 crop * 3278) 7000000000000
residue_cancelled nitrogen crop share h e = rw e (go (n2o_share 3 crop) (n2o_share 3 crop / 7) (residue_share crop h))
  where
    go : (share seventh : ℕ) → share ≡ 7 * seventh → ceil_div (nitrogen * (seventh * 3278)) 1000000000000 ≡ ceil_div (nitrogen * share * 3278) 7000000000000
    go share seventh e =
        let product : nitrogen * share * 3278 ≡ 7 * (nitrogen * (seventh * 3278)) = rw e (omega arith) in
        rw product (sym (cancel_up 7 (nitrogen * (seventh * 3278)) 1000000000000 (lit≤ tt) (lit≤ tt)))

-- ---- records
pub denominator_pos : (a : Activity) → 0 < denominator a
unfolding denominator
denominator_pos (Fuel kind grams) = lit≤ tt
denominator_pos (Vehicles kind count average rate) = lit≤ tt
denominator_pos (Nitrogen source crop grams content) = lit≤ tt
denominator_pos (Lime material grams) = lit≤ tt
denominator_pos (Residue r) = lit≤ tt

pub grams_le : (a : Activity) → ActivityInRange a → activity_grams a ≤ greatest_record
unfolding activity_grams numerator denominator all
grams_le (Fuel kind grams) h = factored_le _ _ _ (omega arith) (kind_le fuel_factor 400000 tt kind h.0) (lit≤ tt)
grams_le (Vehicles kind count average rate) h = factored_le _ _ _ (omega arith) (kind_le fuel_factor 400000 tt kind h.0) (lit≤ tt)
grams_le (Nitrogen source crop grams content) h =
    let g : grams ≤ 10000000000 = omega arith in
    let c : content ≤ 10000 = omega arith in
    rw (mul_assoc (grams * content) (n2o_share source crop) 3278)
    (weighed_le _ _ _ (omega (arith, mul-le-mul g c)) (omega (arith, n2o_share-le source crop h.0 h.1.0)) (lit≤ tt))
grams_le (Lime material grams) h = factored_le _ _ _ (omega arith) (kind_le lime_factor 1200 tt material h.0) (lit≤ tt)
grams_le (Residue r) h =
    let source : Within 1 3 3 = record { least = lit≤ tt; most = lit≤ tt } in
    rw (mul_assoc (residue_nitrogen r) (n2o_share 3 r.crop) 3278)
    (weighed_le _ _ _ (omega (arith, residue_nitrogen-le r h)) (omega (arith, n2o_share-le 3 r.crop source h.0)) (lit≤ tt))

pub emissions-le : (records : List Activity) → ActivitiesInRange records → activity_emissions records ≤ greatest_record * length records
unfolding activity_emissions
emissions-le [] h = omega arith
emissions-le (a ∷ rest) h = omega (arith, grams_le a h.0, emissions-le rest h.1)
