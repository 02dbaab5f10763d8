-- Years in range, given piece by piece.
-- Assumes nothing.
use Rattle.std.proofs.Common.{ℕ, zero, suc, ◌≡◌, List, [], ◌∷◌, arith, length}
use Rattle.figures.specs.Year.{Year}
use Rattle.dossier.specs.Records.{Due, next, year_bytes, YearsInRange}
use Rattle.dossier.specs.Reader.{accepted}
use Rattle.dossier.specs.Judging.{year_piece}
use Rattle.dossier.proofs.DossierLaws.{Room, room-due, room_next}
use Rattle.dossier.proofs.WellFormed.{year-accepted}

-- the bytes of years, each accepted in its turn against what is due by then
abbrev pub YearPieces : Due → List Year → Type 0
YearPieces due [] = Unit {0}
YearPieces due (y ∷ years) = (year_piece due (year_bytes y) ≡ accepted y []) × YearPieces (next y due) years

pub years-given : (k : ℕ) (due : Due) → Room k due → (l : List Year) → length l ≡ k → YearsInRange due l → YearPieces due l
years-given k due r [] n p = tt
years-given zero due r (y ∷ l) n p = absurd (omega arith)
years-given (suc k) due r (y ∷ l) n p =
    ((year-accepted due (room-due due r)).complete y p.0, years-given k (next y due) (room_next y due r) l (omega arith) p.1)
