-- Whether two keys of a list are equal, and the flag of a key. A key is two words.
-- Serves contracts of inner functions and proofs; nothing here has to be believed. Assumes nothing.
use Rattle.std.specs.Prelude.{ℕ, ◌%◌, ◌==◌, Bool, false, ◌&&◌, ◌||◌, List, [], ◌∷◌}
use Rattle.std.specs.List.{list_any}
use Rattle.activity.specs.declared.Words.{Words}
use Rattle.activity.specs.Key.{two_words}

-- the keys whose low words and high words these are, in step
unfoldable pub keys : (low high : List ℕ) → List Words
keys [] high = []
keys (x ∷ low) [] = []
keys (x ∷ low) (y ∷ high) = two_words x y ∷ keys low high

-- whether two keys are equal in both words
unfoldable pub same_key : Words → Words → Bool
same_key a b = a.low == b.low && a.high == b.high

-- whether x is one of the keys
abbrev pub is_among : List Words → Words → Bool
is_among keys x = list_any (λ y. same_key y x) keys

-- whether one of the keys is among those after it
unfoldable pub some_equal : List Words → Bool
some_equal [] = false
some_equal (x ∷ rest) = is_among rest x || some_equal rest

-- which of the 1,021 flags is a key's, by its low word
unfoldable pub slot : Words → ℕ
slot x = x.low % 1_021
