-- What is printed of the front of an input.
-- Assumes nothing.
use Rattle.std.proofs.Common.{arith, ℕ, List, take, Option, Result}
use Rattle.std.specs.Prelude.{IfSome, OnOk}
use Rattle.std.specs.Io.KnownBytes.{Appends}
use Rattle.wire.specs.Bytes.{Bytes}
use Rattle.printout.specs.Printout.{printout}
use Rattle.printout.proofs.LongInputs.{same-printout}

-- what is printed of the first 65,536 bytes is the printout of the whole input
pub printed_whole : {V E : Type 0} (answer : Result V E) (known old new : Option (List ℕ))
    → OnOk answer (IfSome known (λ all. Appends old new (printout (take 65536 all))))
    → OnOk answer (IfSome known (λ all. Bytes all → Appends old new (printout all)))
printed_whole answer known old new h = grind (arith, same-printout)
