-- The figures of a number in a sheet say the number.
-- Assumes nothing.
use Rattle.std.proofs.Common.{ℕ, ◌≡◌, ◌^◌, ◌<◌, arith}
use Rattle.std.specs.Prelude.{decimal}
use Rattle.std.specs.Str.Parse.{IsNumeral, digits_value}
use Rattle.std.proofs.lemmas.Fmt.{decimal_is_IsNumeral_wide}

-- digits alone, one or more, and read in base 10 they are the number
pub numeral-decimal : (n : ℕ) → n < 10 ^ 20 → IsNumeral 10 (decimal n)
numeral-decimal n h = (decimal_is_IsNumeral_wide n (omega arith)).0

pub value-decimal : (n : ℕ) → n < 10 ^ 20 → digits_value 10 (decimal n) ≡ n
value-decimal n h = (decimal_is_IsNumeral_wide n (omega arith)).1
