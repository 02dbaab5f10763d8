-- The line that the testers' programs print for a call.
-- Serves contracts of inner functions and proofs; nothing here has to be believed. Assumes nothing.
use Rattle.std.specs.Prelude.{ℕ, ◌/◌, List, ◌++◌, length}
use Rattle.std.specs.Fmt.{decimal}
use Rattle.sheet.specs.Ascii.{ascii}
use Rattle.sheet.specs.Sheet.{spaced}

-- the call's number and every whole figure of a part of a result, each after a space, and a line feed
unfoldable pub numbers_line : (n : ℕ) (figures : List ℕ) → List ℕ
numbers_line n figures = ascii " " ++ (decimal n ++ (spaced (length figures / 8) figures 0 ++ ascii "\n"))

-- a word and these numbers
unfoldable pub call_line : (word : List ℕ) (n : ℕ) (figures : List ℕ) → List ℕ
call_line word n figures = word ++ numbers_line n figures
