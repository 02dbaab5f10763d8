-- What a closing and the whole reckoning say, beside the bytes that they write.
-- To be believed. Assumes nothing.
use Rattle.std.specs.Prelude.{ℕ, ◌+◌, ◌*◌, ◌<◌, ◌≡◌, List, [], pos, length, get_or}
use Rattle.wire.specs.Bytes.{Bytes}
use Rattle.wire.specs.Signed.{figure_at}
use Rattle.reckoner.specs.Ledger.{Ledger}
use Rattle.reckoner.specs.Calls.{Said, close_says, closed_buffer, HandedBack, dossier_call, reckon_says, reckon_buffer}

-- "per year the eight figures .., then total, tonnes, project balance, belt balance", and the tonnes issued at each end (#107): an acceptance says so many
-- values, a refusal none, and the values said are those read back from the buffer, in their order
pub record Told (years issues : ℕ) (says : Said) (buffer : List ℕ) : Type 0 where
  pub accepted : says.number ≡ 0 → length says.values ≡ 8 * years + 4 + issues
  pub refused : (says.number ≡ 0 → ⊥) → says.values ≡ []
  pub decoded : (i : ℕ) → i < length says.values → figure_at buffer (8 * i) ≡ get_or says.values i (pos 0)

-- of any ledger that the calls handed back, of any bytes, any plan, any list and any buffer
pub record ValuesTold : Type 0 where
  pub close : {l : Ledger} → HandedBack l → (buffer : List ℕ) → Told l.given 0 (close_says l (length buffer)) (closed_buffer l buffer)
  pub reckoning : (s plan ends : List ℕ) → Bytes s → Bytes plan → (buffer : List ℕ)
      → Told (dossier_call s plan).ledger.given (length ends) (reckon_says s plan ends (length buffer)) (reckon_buffer s plan ends buffer)
