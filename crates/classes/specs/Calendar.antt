-- Document 01, "A year's figures": the days of a Gregorian year.
-- To be believed. Assumes nothing.
use Rattle.std.specs.Prelude.{ℕ, ◌%◌, cond, eqb}

-- a leap year is one that 4 divides, but not 100, or 400 does
unfoldable pub days_in_year : ℕ → ℕ
days_in_year year = cond (eqb (year % 400) 0) 366 (cond (eqb (year % 100) 0) 365 (cond (eqb (year % 4) 0) 366 365))
