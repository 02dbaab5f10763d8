-- Accepted exactly when well formed and with a buffer long enough, of each call.
-- Assumes nothing.
use Rattle.std.proofs.Common.{◌≡◌, refl, ℕ, ◌+◌, ◌*◌, ◌≤◌, ◌↔◌, List, length, arith}
use mathlib.Core.Option.{Option}
use Rattle.wire.specs.Bytes.{Bytes}
use Rattle.dossier.specs.Plan.{Plan}
use Rattle.dossier.specs.Records.{WellFormedOpening, WellFormedYear, WellFormedPlan}
use Rattle.figures.specs.Year.{Year}
use Rattle.dossier.specs.Reader.{Judged, refused, accepted}
use Rattle.dossier.specs.Claims.{number_of}
use Rattle.dossier.proofs.Numbers.{opening-zero, year-zero}
use Rattle.periods.specs.Periods.{EndsInRange}
use Rattle.reckoner.specs.Ledger.{Ledger, due_of}
use Rattle.reckoner.specs.Calls.{answer_number, open_call, year_judged, year_call, HandedBack, reckon_number}
use Rattle.promises.specs.Accepted.{BothWellFormed, AcceptedWhen}
use Rattle.reckoner.proofs.Invariant.{handed-kept, due-kept}
use Rattle.reckoner.proofs.CloseLaws.{close-zero}
use Rattle.reckoner.proofs.Numbers.{closing-zero}
use Rattle.promises.proofs.Refused.{last-number}

open_when : (piece : List ℕ) → Bytes piece → (answer_number (open_call piece).answer ≡ 0) ↔ WellFormedOpening piece
unfolding open_call
open_when piece b = grind (arith, opening-zero piece b)

year_when : {l : Ledger} → HandedBack l → (piece plan : List ℕ) → Bytes piece → Bytes plan
    → (answer_number (year_call l piece plan).answer ≡ 0) ↔ ((p : Option Plan) × WellFormedPlan p plan × WellFormedYear (due_of p l) piece)
unfolding year_call
year_when {l} k piece plan b bp =
    let zero = year-zero (λ p. due_of p l) (λ p lent. due-kept p lent l (handed-kept k)) piece plan b bp in
    (λ z. zero.1 (grind arith), λ w. grind (arith, zero.0 w))

reckoning_when : (s plan ends : List ℕ) → Bytes s → Bytes plan → (size : ℕ)
    → (reckon_number s plan ends size ≡ 0) ↔ BothWellFormed s plan (λ first n. EndsInRange first n ends × (64 * n + 32 + 8 * length ends ≤ size))
reckoning_when s plan ends b bp size = last-number 0 tt s plan ends size b bp _ (λ p d h. closing-zero p d h ends size)

pub accepted_when : AcceptedWhen
accepted_when = record { opening = open_when; year = year_when; close = close-zero; reckoning = reckoning_when }

year_number_lem : (l : Ledger) (j : Judged Year) → answer_number (year_judged l j).answer ≡ number_of j
year_number_lem l (refused n) = refl
year_number_lem l (accepted y rest) = refl
