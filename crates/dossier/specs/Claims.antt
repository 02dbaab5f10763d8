-- What is claimed of the judgements; proofs/ has the theorems.
-- Serves contracts of inner functions and proofs; nothing here has to be believed. Assumes nothing.
use Rattle.std.specs.Prelude.{ℕ, ◌≤◌, ◌<◌, ◌≡◌, List, []}
use Rattle.wire.specs.Bytes.{Bytes}
use Rattle.classes.specs.Classes.{greatest_area}
use Rattle.dossier.specs.Plan.{PlanLent}
use Rattle.dossier.specs.Records.{Due}
use Rattle.dossier.specs.Reader.{Reader, Judged, refused, accepted}

-- accepted exactly when well formed: bytes are accepted with a value just where the value is in range and they are its bytes, to the last
pub record AcceptedExactly {A : Type 0} (judge : Reader A) (InRange : A → Type 0) (encoded : A → List ℕ) : Type 0 where
  pub sound : (s : List ℕ) → Bytes s → (a : A) (rest : List ℕ) → judge s ≡ accepted a rest → InRange a × (s ≡ encoded a) × (rest ≡ [])
  pub complete : (a : A) → InRange a → judge (encoded a) ≡ accepted a []

-- what is due can be said: the year in 16 bits, the totals of PA and DA in range, and the plan, if one is lent, in range
pub record DueInRange (due : Due) : Type 0 where
  pub year : due.state.year < 65_536
  pub start : due.terms.start.0 ≤ greatest_area
  pub beltstart : due.terms.beltstart.0 ≤ greatest_area
  pub plan : PlanLent due.plan

-- the number of what was judged: 0 where nothing is refused
abbrev pub number_of : {A : Type 0} → Judged A → ℕ
number_of (refused n) = n
number_of (accepted a rest) = 0
