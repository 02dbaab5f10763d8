-- Document 01, "The dossier": unsigned big-endian fields, and lists of numbers.
-- To be believed. Assumes nothing.
use Rattle.std.specs.Prelude.{ℕ, zero, suc, ◌+◌, ◌*◌, ◌^◌, ◌/◌, ◌%◌, ◌<◌, List, [], ◌∷◌, ◌++◌, length, take, drop, get_or}

-- every entry is below 256
abbrev pub Bytes : List ℕ → Type 0
Bytes s = (k : ℕ) → get_or s k 0 < 256

-- "big-endian": the number in base 256 whose digits are these bytes, the first the most significant
unfoldable pub number : List ℕ → ℕ
number [] = 0
number (b ∷ s) = b * 256 ^ length s + number s

-- the last w bytes of a number, the most significant first: all of it where it is below 256 ^ w
unfoldable pub bytes : (w n : ℕ) → List ℕ
bytes zero n = []
bytes (suc w) n = n / 256 ^ w % 256 ∷ bytes w n

-- the numbers that the first k fields of w bytes say
unfoldable pub numbers : (k w : ℕ) (s : List ℕ) → List ℕ
numbers zero w s = []
numbers (suc k) w s = number (take w s) ∷ numbers k w (drop w s)

-- lists put end to end
unfoldable pub joined : List (List ℕ) → List ℕ
joined [] = []
joined (l ∷ rest) = l ++ joined rest

-- a field of w bytes for each number
unfoldable pub bytes_of_each : ℕ → List ℕ → List ℕ
bytes_of_each w [] = []
bytes_of_each w (x ∷ xs) = bytes w x ++ bytes_of_each w xs

-- the sum of a list of numbers
unfoldable pub total : List ℕ → ℕ
total [] = 0
total (x ∷ xs) = x + total xs

-- the number that the w bytes from at say
unfoldable pub field_at : (w : ℕ) (s : List ℕ) (at : ℕ) → ℕ
field_at w s at = number (take w (drop at s))
