-- What a reader says by its result: the value and the bytes that are left, or the number of the refusal.
-- Serves contracts of inner functions and proofs; to be believed only with the claim that the two readers of tables are one (tables/specs/Readers), which
-- speaks of a reader's result by it. Assumes nothing.
use Rattle.std.specs.Prelude.{List, ℕ, Result, Ok, Err}
use Rattle.refusals.specs.declared.Refusal.{Refusal}
use Rattle.refusals.specs.Refusals.{number_of}
use Rattle.dossier.specs.Reader.{Judged, refused, accepted}

-- a value is seen by view
abbrev pub says : {X A : Type 0} → (view : X → A) → Result X Refusal → (rest : List ℕ) → Judged A
says view (Ok x) rest = accepted (view x) rest
says view (Err refusal) rest = refused (number_of refusal)

-- of a reader that has no value
abbrev pub done : Unit {0} → Unit {0}
done x = tt
