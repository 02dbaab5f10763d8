-- Document 01, "Calls and sheet": "Program `yearsheet` reads a dossier on standard input".
-- To be believed. Assumes nothing.
use Rattle.std.specs.Prelude.{ℕ, List, [], replicate}
use Rattle.std.proofs.Math.Option.{none}
use Rattle.dossier.specs.Records.{Dossier}
use Rattle.dossier.specs.Reader.{Judged, refused, accepted}
use Rattle.dossier.specs.Judging.{dossier}
use Rattle.sheet.specs.Sheet.{sheet_of, refusal_of}
use Rattle.reckoner.specs.Calls.{reckon_buffer}

-- an accepted dossier's sheet, from the result that the reckoning wrote; otherwise `refused` and the number
abbrev pub printed : Judged Dossier → List ℕ → List ℕ
printed (refused n) result = refusal_of n
printed (accepted d rest) result = sheet_of d.opening.head.first_year d.opening.head.years result

-- it lends no plan (#103) and no list of period ends (#107); the result is written into a buffer for 20 years
unfoldable pub printout : List ℕ → List ℕ
printout s = printed (dossier none s) (reckon_buffer s [] [] (replicate 1312 0))
