-- Text as bytes, one for each character. Every text of the sheet is ASCII, where a character's byte is its code.
-- To be believed. Assumes nothing.
use Rattle.std.specs.Prelude.{ℕ, List, [], ◌∷◌}
use Prim.Native.Char.{code}
use Prim.Native.String.{String, [] as empty, ◌∷◌ as ◌then◌}

abbrev pub ascii : String → List ℕ
ascii empty = []
ascii (c then text) = code c ∷ ascii text
