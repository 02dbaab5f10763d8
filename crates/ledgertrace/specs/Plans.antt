-- The plan that a list of calls lends the years after it.
-- Serves contracts of inner functions and proofs; nothing here has to be believed. Assumes nothing.
use Rattle.std.specs.Prelude.{ℕ, ◌≤◌, List, length, IsTrue}
use Rattle.console.specs.Filled.{filled}
use Rattle.ledgertrace.specs.declared.Call.{Call}

-- a plan is no longer than a call's length can say, and the buffer of a closing is full of the filling
abbrev pub Fits : Call → Type 0
Fits (Call.Open piece) = Unit {0}
Fits (Call.Year piece) = Unit {0}
Fits (Call.Plan piece) = length piece.now ≤ 65536
Fits (Call.Close report) = IsTrue (filled report.now)

-- the plan after a call, of the plan before it
abbrev pub plan_after : Call → List ℕ → List ℕ
plan_after (Call.Open piece) plan = plan
plan_after (Call.Year piece) plan = plan
plan_after (Call.Plan piece) plan = piece.now
plan_after (Call.Close report) plan = plan
