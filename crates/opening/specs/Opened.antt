-- What the readers of this crate say, in the terms of the crate dossier.
-- Serves contracts of inner functions and proofs; nothing here has to be believed. Assumes nothing.
use Rattle.std.specs.Prelude.{ℕ, List, Option as Optional, Some, None, ◌==◌, if◌then◌else◌}
use Rattle.std.proofs.Math.Option.{Option, none, some}
use Rattle.dossier.specs.Reader.{Reader, ◌>>=◌, give}
use Rattle.dossier.specs.Records.{Settled, settled}
use Rattle.dossier.specs.Judging.{opening, opening_piece}
use Rattle.opening.specs.declared.Opened.{Opened}

-- a record that may be absent
abbrev pub filed : Optional (List ℕ) → Option (List ℕ)
filed None = none
filed (Some numbers) = some numbers

-- what is filed by an opening of this option, with this matrix in use
abbrev pub filed_under : (option : ℕ) → List ℕ → Option (List ℕ)
filed_under option matrix = if option == 2 then some matrix else none

-- an opening
abbrev pub settled_of : Opened → Settled
settled_of opened = record { terms = opened.terms; state = opened.state }

-- what an opening settles
unfoldable pub settled_opening : Reader Settled
settled_opening = do
  o ← opening
  give (settled o)

-- of an opening piece, after which nothing follows
unfoldable pub settled_piece : Reader Settled
settled_piece = do
  o ← opening_piece
  give (settled o)
