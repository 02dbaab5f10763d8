-- The days of a year are 365 or 366.
-- Assumes nothing.
use mathlib.Core.Bool.{Bool, true, false, cond}
use Prim.Native.Nat.{ℕ, ◌*◌, ◌%◌, ◌≤◌, ◌<◌}
use native.Mathlib.Omega.{arith}
use lib.Dec.{eqb}
use Rattle.classes.specs.Calendar.{days_in_year}

pub days_range : (year : ℕ) → (365 ≤ days_in_year year) × (days_in_year year ≤ 366)
unfolding days_in_year
days_range year = go (eqb (year % 400) 0) (eqb (year % 100) 0) (eqb (year % 4) 0)
  where
    go : (a b c : Bool) → (365 ≤ cond a 366 (cond b 365 (cond c 366 365))) × (cond a 366 (cond b 365 (cond c 366 365)) ≤ 366)
    go true b c = (omega arith, omega arith)
    go false true c = (omega arith, omega arith)
    go false false true = (omega arith, omega arith)
    go false false false = (omega arith, omega arith)

-- the reference's divisor is positive
pub divisor_pos : (year : ℕ) → 0 < 300 * days_in_year year
divisor_pos year = omega (arith, days_range year)
