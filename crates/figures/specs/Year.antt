-- What an accepted year brings (document 01, "The dossier").
-- To be believed. Assumes nothing.
use Rattle.std.specs.Prelude.{ℕ, Bool, List}
use Rattle.activity.specs.Records.{Activity}

-- the year, its operating days (document 01: d), the 144 monitored conversions of the project area and of the belt, and the activity records: its own
-- or, where PL stands instead of them, those that the plan has for the year (#103: planned)
pub record Year : Type 0 where
  pub year : ℕ
  pub operating_days : ℕ
  pub conversions : List ℕ
  pub belt_conversions : List ℕ
  pub planned : Bool
  pub activities : List Activity
