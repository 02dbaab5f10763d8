-- Document 01, "The dossier": each activity record as a row of one table. Its bytes, its mark, its judgement and what it equals come from its row; its ranges are
-- those of the crate activity.
-- To be believed. Assumes nothing.
use Rattle.std.specs.Prelude.{ℕ, ◌/◌, Bool, true, false, cond, List, [], ◌∷◌, ◌++◌, eqb}
use Rattle.activity.specs.Records.{Activity}
use Rattle.activity.specs.Records.Activity.{Fuel, Vehicles, Nitrogen, Lime, Residue}
use Rattle.wire.specs.Bytes.{bytes}
use Rattle.dossier.specs.Marks.{mark_fu, mark_ve, mark_ni, mark_li, mark_cr}

-- a record made of a number for each field
abbrev pub Made : List ℕ → Type 0
Made [] = Activity
Made (w ∷ widths) = ℕ → Made widths

-- a row: the mark, the width of each field in bytes, and the record that the fields make
pub record Layout : Type 0 where
  pub mark : ℕ
  pub widths : List ℕ
  pub made : Made widths

-- widths in bits, as document 01 gives them
abbrev pub bits : List ℕ → List ℕ
bits [] = []
bits (b ∷ rest) = b / 8 ∷ bits rest

-- "FU kind 8, grams 64; VE kind 8, then three of 32; NI source 8, crop 8, grams 64, content 16; LI material 8, grams 64"
abbrev pub fuel : Layout
fuel = record { mark = mark_fu; widths = bits (8 ∷ 64 ∷ []); made = Fuel }

abbrev pub vehicles : Layout
vehicles = record { mark = mark_ve; widths = bits (8 ∷ 32 ∷ 32 ∷ 32 ∷ []); made = Vehicles }

abbrev pub nitrogen : Layout
nitrogen = record { mark = mark_ni; widths = bits (8 ∷ 8 ∷ 64 ∷ 16 ∷ []); made = Nitrogen }

abbrev pub lime : Layout
lime = record { mark = mark_li; widths = bits (8 ∷ 64 ∷ []); made = Lime }

-- CR with its eight numbers in their order
abbrev pub residue_of : (crop area harvest renewed above_ratio below_ratio above_content below_content : ℕ) → Activity
residue_of crop area harvest renewed above_ratio below_ratio above_content below_content = Residue (record {
  crop = crop;
  area = area;
  harvest = harvest;
  renewed = renewed;
  above = record { ratio = above_ratio; content = above_content };
  below = record { ratio = below_ratio; content = below_content };
})

-- #106: crop 8; area and yield, 32 each; renewed share, above-ground and below-ground ratio, their nitrogen contents, "these five 16 bits each"
abbrev pub residue : Layout
residue = record { mark = mark_cr; widths = bits (8 ∷ 32 ∷ 32 ∷ 16 ∷ 16 ∷ 16 ∷ 16 ∷ 16 ∷ []); made = residue_of }

abbrev pub layouts : List Layout
layouts = fuel ∷ vehicles ∷ nitrogen ∷ lime ∷ residue ∷ []

-- each number in a field of its width
abbrev pub in_fields : (widths numbers : List ℕ) → List ℕ
in_fields (w ∷ widths) (x ∷ numbers) = bytes w x ++ in_fields widths numbers
in_fields (w ∷ widths) [] = []
in_fields [] numbers = []

-- a row's mark, and its fields with these numbers
abbrev pub filed : Layout → List ℕ → List ℕ
filed l numbers = bytes 2 l.mark ++ in_fields l.widths numbers

-- the row of a record, and the number in each of its fields
abbrev pub layout_of : Activity → Layout
layout_of (Fuel kind grams) = fuel
layout_of (Vehicles kind count average rate) = vehicles
layout_of (Nitrogen source crop grams content) = nitrogen
layout_of (Lime material grams) = lime
layout_of (Residue r) = residue

abbrev pub numbers_of : Activity → List ℕ
numbers_of (Fuel kind grams) = kind ∷ grams ∷ []
numbers_of (Vehicles kind count average rate) = kind ∷ count ∷ average ∷ rate ∷ []
numbers_of (Nitrogen source crop grams content) = source ∷ crop ∷ grams ∷ content ∷ []
numbers_of (Lime material grams) = material ∷ grams ∷ []
numbers_of (Residue r) =
    r.crop ∷ r.area ∷ r.harvest ∷ r.renewed ∷ r.above.ratio ∷ r.below.ratio ∷ r.above.content ∷ r.below.content ∷ []

unfoldable pub activity_bytes : Activity → List ℕ
activity_bytes a = filed (layout_of a) (numbers_of a)

-- whether two lists have the same numbers
abbrev pub alike : List ℕ → List ℕ → Bool
alike [] [] = true
alike [] (y ∷ ys) = false
alike (x ∷ xs) [] = false
alike (x ∷ xs) (y ∷ ys) = cond (eqb x y) (alike xs ys) false

-- #105, "equal in mark and all fields"
unfoldable pub same : Activity → Activity → Bool
same a b = cond (eqb (layout_of a).mark (layout_of b).mark) (alike (numbers_of a) (numbers_of b)) false

-- whether a record is none of these
unfoldable pub fresh : List Activity → Activity → Bool
fresh [] a = true
fresh (b ∷ rest) a = cond (same a b) false (fresh rest a)
