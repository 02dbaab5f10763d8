-- The sheet of a ledger, which is what the code prints from.
-- Serves contracts of inner functions and proofs; nothing here has to be believed. Assumes nothing.
use Rattle.std.specs.Prelude.{ℕ, List, replicate}
use Rattle.sheet.specs.Sheet.{sheet_of}
use Rattle.reckoner.specs.Ledger.{Ledger, first_year}
use Rattle.reckoner.specs.Calls.{closed_buffer}

-- its years from the first on, over the report that closing writes into a buffer for 20 years
unfoldable pub ledger_sheet : Ledger → List ℕ
ledger_sheet l = sheet_of (first_year l) l.given (closed_buffer l (replicate 1312 0))
