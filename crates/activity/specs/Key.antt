-- A record in range as two numbers of 64 bits: its fields one after the other, each in a place as wide as its range at least, and last which of the five
-- it is. CR alone needs the high one.
-- Serves contracts of inner functions and proofs; nothing here has to be believed. Assumes nothing.
use Rattle.std.specs.Prelude.{ℕ, ◌+◌, ◌*◌}
use Rattle.activity.specs.Records.{Activity}
use Rattle.activity.specs.Records.Activity.{Fuel, Vehicles, Nitrogen, Lime, Residue}
use Rattle.activity.specs.declared.Words.{Words}

abbrev pub two_words : (low high : ℕ) → Words
two_words low high = record { low = low; high = high }

unfoldable pub key : Activity → Words
key (Fuel kind grams) = two_words ((grams * 4 + kind) * 8) 0
key (Vehicles kind count average rate) = two_words ((((rate * 1_048_576 + average) * 1_024 + count) * 4 + kind) * 8 + 1) 0
key (Nitrogen source crop grams content) = two_words ((((grams * 16_384 + content) * 4 + crop) * 4 + source) * 8 + 2) 0
key (Lime material grams) = two_words ((grams * 4 + material) * 8 + 3) 0
key (Residue r) =
    two_words ((((((r.above.content * 10_001 + r.below.content) * 10_001 + r.renewed) * 501 + r.above.ratio) * 501 + r.below.ratio) * 4 + r.crop) * 8 + 4)
    (r.area * 4_294_967_296 + r.harvest)
