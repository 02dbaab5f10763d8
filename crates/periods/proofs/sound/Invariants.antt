use Rattle.std.proofs.Common.{◌≡◌, ℕ, ◌+◌, ◌≤◌, List, drop}
use Rattle.periods.specs.Periods.{ends_from, ends_sound}
use Rattle.periods.proofs.sound.Given as goal

-- after i ends
pub record SoFar (ends : List ℕ) (first years least i : ℕ) : Type 0 where
  pub later : first ≤ least
  pub left : ends_sound first years ends ≡ ends_from least (first + years) (drop i ends)

abbrev pub invariant-loop-end : goal.invariant-loop-end
invariant-loop-end l = SoFar l.ends l.first l.years l.least l.end-index
