-- What demand 3 assures follows from how near the reckoning is to the unrounded one.
-- Assumes nothing.
use Rattle.std.proofs.Common.{ℕ, arith}
use Rattle.arithmetic.proofs.NearLaws.{near_≤ᶠ, near_gap}
use Rattle.figures.specs.declared.State.{State}
use Rattle.assurance.specs.Unrounded.{Unrounded}
use Rattle.assurance.specs.Assurance.{RegionAssured, TotalAssured}
use Rattle.assurance.proofs.RegionLaws.{follows_assured}
use Rattle.assurance.proofs.YearLaws.{Reckoned}

-- of a state and the unrounded one beside it, by stocks of at most S
pub record Assured (S n m project_start belt_start : ℕ) (s : State) (u : Unrounded) : Type 0 where
  pub project : RegionAssured n project_start s.project.areas s.project.balance.0 u.project
  pub belt : RegionAssured n belt_start s.belt.areas s.belt.balance.0 u.belt
  pub total : TotalAssured S n m s.total.0 u.total

pub reckoned-assured : (S n m project_start belt_start : ℕ) (r : State) (u : Unrounded) → Reckoned S n m project_start belt_start r u → Assured S n m project_start belt_start r u
reckoned-assured S n m project_start belt_start r u s = record {
  project = follows_assured n project_start r.project u.project s.project;
  belt = follows_assured n belt_start r.belt u.belt s.belt;
  total = record { never_more = near_≤ᶠ s.total; gap = λ n_pos. near_gap _ 25 s.total (omega arith); none = s.none };
}
