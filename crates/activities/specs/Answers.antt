-- What is read of a year's activity records.
-- Serves contracts of inner functions and proofs; nothing here has to be believed. Assumes nothing.
use Rattle.std.specs.Prelude.{ℕ, ◌≤◌, ◌<◌, ◌≡◌, true, false, List, [], Option, Some, None, Result, map, pos, length, take, drop, IfOk, if◌then◌else◌}
use Rattle.units.specs.declared.Grams.{Grams}
use Rattle.refusals.specs.declared.Refusal.{Refusal}
use Rattle.activity.specs.declared.records.Activity.{Activity as Typed}
use Rattle.activity.specs.declared.Words.{Words}
use Rattle.activity.specs.Records.{Activity}
use Rattle.activity.specs.Activity.{ActivitiesInRange, activity_emissions}
use Rattle.activity.specs.Filed.{as_filed}
use Rattle.activity.specs.Key.{key}
use Rattle.wire.specs.Bytes.{number}
use Rattle.pairs.specs.Pairs.{some_equal}
use Rattle.dossier.specs.Causes.{record_repeated}
use Rattle.dossier.specs.Reader.{refused, Reader, ◌>>=◌, give}
use Rattle.dossier.specs.JudgingRecords.{activity_mark, activity_under}
use Rattle.dossier.specs.Judging.{activities}
use Rattle.cursor.specs.Says.{says}

-- ---- one activity record
-- the mark m stands here, and these bytes after it
pub record Marked (s : List ℕ) (m : ℕ) (fields : List ℕ) : Type 0 where
  pub long : 2 ≤ length s
  pub mark : m ≡ number (take 2 s)
  pub after : fields ≡ drop 2 s

-- the mark that stands here and the bytes after it; none where fewer than two bytes are left
abbrev pub SaysMark : (s : List ℕ) → Option (ℕ × List ℕ) → Type 0
SaysMark s (Some (m, fields)) = Marked s m fields
SaysMark s None = length s < 2

-- a record after the mark m, and the bytes that are left; none where m is another mark
abbrev pub SaysUnder : (m : ℕ) (old : List ℕ) → Option (Result Typed Refusal) → (new : List ℕ) → Type 0
SaysUnder m old (Some result) new = (activity_mark m ≡ true) × (says as_filed result new ≡ activity_under m old)
SaysUnder m old None new = activity_mark m ≡ false

-- ---- a year's records, with their keys
-- up to sixty records in range, and their keys
pub record Keyed (records : List Activity) (keys : List Words) : Type 0 where
  pub few : length records ≤ 60
  pub in_range : ActivitiesInRange records
  pub told : keys ≡ map key records

-- a year's records are judged a repetition where two keys are equal, otherwise as what stopped the reading says
pub record RecordsSaid (old : List ℕ) (keys : List Words) (result : Result Grams Refusal) (new : List ℕ) : Type 0 where
  pub records : List Activity
  pub keyed : Keyed records keys
  pub summed : IfOk result (λ grams. grams.0 ≡ pos (activity_emissions records))
  pub judged : activities [] old ≡ (if some_equal keys then refused record_repeated else says (λ grams. records) result new)

-- ---- the sum of their emissions
unfoldable pub summed_activities : Reader Grams
summed_activities = do
  records ← activities []
  give (record { 0 = pos (activity_emissions records) })
