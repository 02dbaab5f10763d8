-- Case A: the sheet of its twelve numbers, byte for byte; the least figure; a refusal.
-- Assumes nothing.
use mathlib.Core.Path.{◌≡◌, refl}
use mathlib.Core.List.{List, [], ◌∷◌, ◌++◌}
use lib.IntN.{ℤ, pos}
use Rattle.std.specs.Fmt.{digits, signed_decimal}
use Rattle.wire.specs.Bytes.{number, bytes, field_at}
use Rattle.wire.specs.Signed.{twos_complement, figure_bytes, figures_bytes, written, signed, figure_at}
use Rattle.sheet.specs.Ascii.{ascii}
use Rattle.sheet.specs.Sheet.{header, spaced, year_line, year_lines, named, total_line, sheet_of, refusal_of}

abbrev pub figures : List ℤ
figures =
    pos 833569000 ∷ pos 334766667 ∷ pos 318630 ∷ pos 0 ∷ pos 0 ∷ pos 0 ∷ pos 498483703 ∷ pos 398786962 ∷ pos 398786962 ∷ pos 398 ∷ pos 0 ∷ pos 0 ∷ []

pub case_a : sheet_of 2020 1 (written figures [])
    ≡ ascii "year reference project activity belt belt-reference displaced reduction credited\n"
    ++ (ascii "2020 833569000 334766667 318630 0 0 0 498483703 398786962\n"
    ++ ascii "total 398786962 tonnes 398 balance 0 0\n")
unfolding sheet_of header year_lines year_line named total_line spaced digits figure_at signed field_at number written figures_bytes figure_bytes twos_complement bytes
case_a = refl

-- "a negative figure carries a minus", the least one too
pub least : signed_decimal (signed 9_223_372_036_854_775_808) ≡ ascii "-9223372036854775808"
unfolding digits signed
least = refl

-- "refused" and its number
pub refusal : refusal_of 10 ≡ ascii "refused 10\n"
unfolding refusal_of digits
refusal = refl
