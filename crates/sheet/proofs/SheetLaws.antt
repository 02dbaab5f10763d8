-- The figures and the lines of a sheet, one more at the end.
-- Assumes nothing.
use Rattle.std.proofs.Common.{◌≡◌, ℕ, zero, suc, ◌+◌, ◌-◌, ◌*◌, ◌^◌, List, ◌++◌, append_assoc, append-nil, arith, w64}
use Rattle.std.specs.Fmt.{signed_decimal}
use Rattle.std.specs.Int.{cast_signed}
use Rattle.wire.specs.Signed.{signed, figure_at}
use Rattle.sheet.specs.Ascii.{ascii}
use Rattle.sheet.specs.Sheet.{spaced, year_line, year_lines}

pub cast_signed-signed : (n : ℕ) → cast_signed w64 n ≡ signed n
unfolding signed
cast_signed-signed n =
    let e : 2 ^ 64 - suc n ≡ 2 ^ 64 - 1 - n = omega arith in
    rw e

pub spaced-last : (k : ℕ) (report : List ℕ) (at : ℕ) → spaced (k + 1) report at ≡ spaced k report at ++ (ascii " " ++ signed_decimal (figure_at report (at + 8 * k)))
unfolding spaced
spaced-last zero report at = grind (arith, append-nil)
spaced-last (suc k) report at = grind (arith, append_assoc, spaced-last k report (at + 8))

pub lines-last : (n year : ℕ) (report : List ℕ) (at : ℕ) → year_lines (n + 1) year report at ≡ year_lines n year report at ++ year_line (year + n) report (at + 64 * n)
unfolding year_lines
lines-last zero year report at = grind (arith, append-nil)
lines-last (suc n) year report at = grind (arith, append_assoc, lines-last n (suc year) report (at + 64))
