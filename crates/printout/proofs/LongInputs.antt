-- What is printed is settled by the first 65,536 bytes: program `yearsheet` reads no more.
-- Assumes nothing.
use Prim.Native.Nat.{ℕ}
use mathlib.Core.Path.{◌≡◌}
use mathlib.Core.Option.{none}
use mathlib.Core.List.{List}
use lib.ListN.{take}
use Rattle.wire.specs.Bytes.{Bytes}
use Rattle.dossier.specs.Judging.{dossier}
use Rattle.dossier.proofs.UnderLaws.{no_plan}
use Rattle.dossier.proofs.FirstBytes.{first-bytes_settle}
use Rattle.reckoner.specs.Calls.{dossier_call, reckon_buffer}
use Rattle.printout.specs.Printout.{printout}

pub same-printout : (s : List ℕ) → Bytes s → printout (take 65536 s) ≡ printout s
unfolding printout reckon_buffer dossier_call
same-printout s bs = rw (no_plan dossier (take 65536 s), no_plan dossier s, first-bytes_settle none tt s bs)
