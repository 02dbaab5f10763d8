-- What a read brought is what the reader lost.
-- Serves contracts of inner functions and proofs; nothing here has to be believed. Assumes nothing.
use Rattle.std.specs.Prelude.{ℕ, ◌<◌, List, [], length, take, Option, Some, None}
use Rattle.std.specs.Io.KnownBytes.{Consumes, IsAtEnd}

-- what a reader had before and has left, where that is known; at the end it has nothing left, unless there was no space
abbrev pub Taken : (old new : Option (List ℕ)) → (read : Option ℕ) → List ℕ → Type 0
Taken old new (Some count) space = Consumes old new (take count space)
Taken old new None space = Consumes old new [] × (0 < length space → IsAtEnd new)
