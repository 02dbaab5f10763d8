-- A ledger has at most 20 years, and an accepted closing had room for the figures of its years.
-- Assumes nothing.
use Prim.Native.Nat.{ℕ, ◌+◌, ◌*◌, ◌≤◌}
use mathlib.Core.Path.{◌≡◌}
use mathlib.Core.List.{[]}
use native.Mathlib.Omega.{arith}
use Rattle.reckoner.specs.Ledger.{Ledger}
use Rattle.reckoner.specs.Calls.{Answer, Step, periods_answer, close_call, HandedBack}
use Rattle.reckoner.proofs.CloseLaws.{close-zero}
use Rattle.reckoner.proofs.Invariant.{handed-kept}

pub at_most-twenty : {l : Ledger} → HandedBack l → l.given ≤ 20
at_most-twenty h = let k = handed-kept h in omega (arith, k.count)

pub closed_fits : (l : Ledger) (size : ℕ) (r : Step) → r ≡ close_call l size → r.answer ≡ Answer.Accepted → 64 * l.given + 32 ≤ size
unfolding close_call
closed_fits l size r h e =
    let closed : periods_answer l [] size ≡ Answer.Accepted = rw h at e in
    (close-zero l size).0 (rw closed)
