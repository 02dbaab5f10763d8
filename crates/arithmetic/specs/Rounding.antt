-- The quotient rounded up, of which the law `ceil_div-is` says what it is, and the positive part. (A quotient of naturals, n / d, is rounded down.)
-- To be believed. Assumes nothing.
use Rattle.std.specs.Prelude.{ℕ, ◌+◌, ◌-◌, ◌/◌, ℤ, pos, negsuc}

-- n ÷ d, rounded up
unfoldable pub ceil_div : (n d : ℕ) → ℕ
ceil_div n d = (n + (d - 1)) / d

-- z if that is positive, otherwise 0 (negsuc n is -(n + 1))
abbrev pub positive_part : ℤ → ℤ
positive_part (pos n) = pos n
positive_part (negsuc n) = pos 0
