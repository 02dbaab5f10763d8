-- Document 01, "Activity records, grams of CO2": the ranges of each record's fields, what the records of a year owe, and a record's grams as a numerator
-- over a positive denominator. The rounded and the unrounded reckoning share all of it.
-- To be believed. Assumes nothing.
use Rattle.std.specs.Prelude.{ℕ, ◌+◌, ◌-◌, ◌*◌, ◌≤◌, ◌≡◌, List, [], ◌∷◌, length, get_or}
use Rattle.arithmetic.specs.Rounding.{ceil_div}
use Rattle.activity.specs.Records.{Activity}
use Rattle.activity.specs.Records.{FixingCrop}
use Rattle.activity.specs.Records.Activity.{Fuel, Vehicles, Nitrogen, Lime, Residue}

-- from low to high, both included
pub record Within (low x high : ℕ) : Type 0 where
  pub least : low ≤ x
  pub most : x ≤ high

-- ---- ranges
-- a number, and the range that it must be in
pub record Range : Type 0 where
  pub low : ℕ
  pub number : ℕ
  pub high : ℕ

infix 68 ◌from◌to◌ ◌up_to◌
abbrev pub ◌from◌to◌ : (x low high : ℕ) → Range
◌from◌to◌ x low high = record { low = low; number = x; high = high }

-- "Zero quantities are allowed"
abbrev pub ◌up_to◌ : (x high : ℕ) → Range
◌up_to◌ x high = x from 0 to high

-- FU: kind (1 diesel, 2 gasoline, 3 crude), grams of fuel up to 10^12
-- VE: kind, count up to 1,000, average km or hours up to 1,000,000, grams of fuel per km or hour up to 100,000; their product up to 10^12
-- NI: source (1 synthetic, 2 organic, 3 residue), crop (1 other, 2 flooded rice), grams up to 10^10, nitrogen content in ten-thousandths up to 10,000
-- LI: material (1 limestone, 2 dolomite, 3 urea), grams up to 10^12
-- CR (#106): crop as in NI; area in ha and yield (harvest) in kg of dry matter per ha, 32 bits each and no other limit by themselves, "Area × yield is at
-- most 10^8"; renewed share in ten-thousandths; above-ground and below-ground ratio in hundredths, up to 500; their nitrogen contents in
-- ten-thousandths; "shares and contents are at most 10,000"
abbrev pub ranges : Activity → List Range
ranges (Fuel kind grams) = kind from 1 to 3 ∷ grams up_to 1_000_000_000_000 ∷ []
ranges (Vehicles kind count average rate) =
    kind from 1 to 3 ∷ count up_to 1_000 ∷ average up_to 1_000_000 ∷ rate up_to 100_000 ∷ count * average * rate up_to 1_000_000_000_000 ∷ []
ranges (Nitrogen source crop grams content) = source from 1 to 3 ∷ crop from 1 to 2 ∷ grams up_to 10_000_000_000 ∷ content up_to 10_000 ∷ []
ranges (Lime material grams) = material from 1 to 3 ∷ grams up_to 1_000_000_000_000 ∷ []
ranges (Residue r) =
    r.crop from 1 to 2 ∷ r.area up_to 4_294_967_295 ∷ r.harvest up_to 4_294_967_295 ∷ r.area * r.harvest up_to 100_000_000 ∷ r.renewed up_to 10_000
    ∷ r.above.ratio up_to 500 ∷ r.below.ratio up_to 500 ∷ r.above.content up_to 10_000 ∷ r.below.content up_to 10_000 ∷ []

-- every number of a list is in its range
abbrev pub InRanges : List Range → Type 0
InRanges [] = Unit {0}
InRanges (r ∷ rest) = Within r.low r.number r.high × InRanges rest

-- those of a record are
abbrev pub ActivityInRange : Activity → Type 0
ActivityInRange a = InRanges (ranges a)

-- those of every record of a list are
abbrev pub ActivitiesInRange : List Activity → Type 0
ActivitiesInRange [] = Unit {0}
ActivitiesInRange (a ∷ rest) = ActivityInRange a × ActivitiesInRange rest

-- #105, "two activity records are equal": a record is none of these, and no two of a list are
abbrev pub NoneOf : List Activity → Activity → Type 0
NoneOf [] a = Unit {0}
NoneOf (b ∷ rest) a = (a ≡ b → ⊥) × NoneOf rest a

abbrev pub AllDifferent : List Activity → Type 0
AllDifferent [] = Unit {0}
AllDifferent (a ∷ rest) = NoneOf rest a × AllDifferent rest

-- 1 for CR, 0 for any other
abbrev pub residue_one : Activity → ℕ
residue_one (Fuel kind grams) = 0
residue_one (Vehicles kind count average rate) = 0
residue_one (Nitrogen source crop grams content) = 0
residue_one (Lime material grams) = 0
residue_one (Residue r) = 1

-- how many of these are CR
abbrev pub residues : List Activity → ℕ
residues [] = 0
residues (a ∷ rest) = residue_one a + residues rest

-- the activity records of a year, its own or those of a plan: "0 to 60", "At most two CR a year" (#106), each in range, no two equal
pub record RunInRange (records : List Activity) : Type 0 where
  pub count : length records ≤ 60
  pub residue_count : residues records ≤ 2
  pub each : ActivitiesInRange records
  pub different : AllDifferent records

-- ---- grams
-- the first, second or third of three, for 1, 2 and 3
abbrev of_three : (k a b c : ℕ) → ℕ
of_three k a b c = get_or (a ∷ b ∷ c ∷ []) (k - 1) 0

-- FU: grams × 318,630, 306,999 or 310,059 ÷ 100,000 (document 001, J(5): net calorific value × emission factor); VE: its product is fuel as in FU
abbrev pub fuel_factor : ℕ → ℕ
fuel_factor kind = of_three kind 318_630 306_999 310_059

-- NI and CR: document 01's w, the N2O-N share of applied nitrogen in 10^-5: 1325, 1425, 1225 by source for crop 1 and 625, 725, 525 for crop 2. It sums
-- direct emission, 0.01 (rice 0.003), deposition, 0.10 (organic 0.20, residue none) × 0.010, and leaching, 0.30 × 0.0075
-- (document 001, equations 17 to 24; 2006 IPCC Guidelines, volume 4, tables 11.1 and 11.3)
abbrev pub n2o_share : (source crop : ℕ) → ℕ
n2o_share source crop = get_or (1325 ∷ 1425 ∷ 1225 ∷ 625 ∷ 725 ∷ 525 ∷ []) (3 * (crop - 1) + (source - 1)) 0

-- LI: grams × 132, 143 or 220 ÷ 300 (document 001, equations 25 and 26: 0.12, 0.13, 0.20 × 44 ÷ 12)
abbrev pub lime_factor : ℕ → ℕ
lime_factor material = of_three material 132 143 220

-- CR: "Nitrogen is area × yield × share × (above ratio × above content + below ratio × below content)" (document 001, equation 20), here in 10^-7 g. It is
-- applied nitrogen of source 3, crop residue
abbrev pub residue_nitrogen : FixingCrop → ℕ
residue_nitrogen r = r.area * r.harvest * r.renewed * (r.above.ratio * r.above.content + r.below.ratio * r.below.content)

-- a record's grams of CO2, numerator ÷ denominator (3,278 ÷ 7 is 44 ÷ 28 × 298)
unfoldable pub numerator : Activity → ℕ
numerator (Fuel kind grams) = grams * fuel_factor kind
numerator (Vehicles kind count average rate) = count * average * rate * fuel_factor kind
numerator (Nitrogen source crop grams content) = grams * content * n2o_share source crop * 3278
numerator (Lime material grams) = grams * lime_factor material
numerator (Residue r) = residue_nitrogen r * n2o_share 3 r.crop * 3278

unfoldable pub denominator : Activity → ℕ
denominator (Fuel kind grams) = 100_000
denominator (Vehicles kind count average rate) = 100_000
denominator (Nitrogen source crop grams content) = 7_000_000_000
denominator (Lime material grams) = 300
denominator (Residue r) = 7_000_000_000_000

-- rounded up by itself
unfoldable pub activity_grams : Activity → ℕ
activity_grams a = ceil_div (numerator a) (denominator a)

-- the sum over a year's records (document 01: activity)
unfoldable pub activity_emissions : List Activity → ℕ
activity_emissions [] = 0
activity_emissions (a ∷ rest) = activity_grams a + activity_emissions rest
