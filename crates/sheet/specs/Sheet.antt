-- Document 01, "Calls and sheet": the lines of `yearsheet`. "Each line ends with a line feed."
-- To be believed. Assumes nothing.
use Rattle.std.specs.Prelude.{ℕ, zero, suc, ◌+◌, ◌*◌, List, [], ◌++◌}
use Rattle.std.specs.Fmt.{decimal, signed_decimal}
use Rattle.wire.specs.Signed.{figure_at}
use Rattle.sheet.specs.Ascii.{ascii}

unfoldable pub header : List ℕ
header = ascii "year reference project activity belt belt-reference displaced reduction credited\n"

-- k figures of a result buffer from a place on, each after a space
unfoldable pub spaced : (k : ℕ) (result : List ℕ) (at : ℕ) → List ℕ
spaced zero result at = []
spaced (suc k) result at = ascii " " ++ (signed_decimal (figure_at result at) ++ spaced k result (at + 8))

-- the line of a year: the year and its eight figures
unfoldable pub year_line : (year : ℕ) (result : List ℕ) (at : ℕ) → List ℕ
year_line year result at = decimal year ++ (spaced 8 result at ++ ascii "\n")

-- the lines of n years from the first on, whose figures stand from a place on
unfoldable pub year_lines : (n year : ℕ) (result : List ℕ) (at : ℕ) → List ℕ
year_lines zero year result at = []
year_lines (suc n) year result at = year_line year result at ++ year_lines n (suc year) result (at + 64)

-- a word and the k figures that it names
unfoldable pub named : (word : List ℕ) (k : ℕ) (result : List ℕ) (at : ℕ) → List ℕ
named word k result at = word ++ spaced k result at

-- "total 398786962 tonnes 398 balance 0 0": the four numbers from a place on
unfoldable pub total_line : List ℕ → ℕ → List ℕ
total_line result at =
    named (ascii "total") 1 result at ++ (named (ascii " tonnes") 1 result (at + 8) ++ (named (ascii " balance") 2 result (at + 16) ++ ascii "\n"))

-- the sheet of n years from the first on, from the result that the reckoning wrote
unfoldable pub sheet_of : (first n : ℕ) → List ℕ → List ℕ
sheet_of first n result = header ++ (year_lines n first result 0 ++ total_line result (64 * n))

-- "A refusal prints `refused` and its number, nothing else"
unfoldable pub refusal_of : ℕ → List ℕ
refusal_of n = ascii "refused " ++ (decimal n ++ ascii "\n")
