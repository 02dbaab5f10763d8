-- What was read of a year's records, once their keys are looked through for two that are equal.
-- Assumes nothing.
use Prim.Native.Nat.{ℕ, ◌≤◌}
use mathlib.Core.Path.{◌≡◌, ◌∙◌, sym}
use mathlib.Core.Bool.{true, false}
use mathlib.Core.List.{List, []}
use native.Mathlib.Omega.{arith}
use lib.IntN.{pos}
use lib.ListN.{length}
use Rattle.std.specs.Prelude.{Result, Ok, Err, IfOk}
use Rattle.std.specs.Int.Signed.{mag}
use Rattle.units.specs.declared.Grams.{Grams}
use Rattle.refusals.specs.declared.Refusal.{Refusal}
use Rattle.refusals.specs.Refusals.{number_of}
use Rattle.classes.specs.Ranges.{greatest_activity}
use Rattle.activity.specs.declared.Words.{Words}
use Rattle.activity.specs.Records.{Activity}
use Rattle.activity.specs.Activity.{ActivitiesInRange, activity_emissions}
use Rattle.activity.proofs.ActivityLaws.{emissions-le}
use Rattle.pairs.specs.Pairs.{some_equal}
use Rattle.dossier.specs.Reader.{refused, accepted, give}
use Rattle.dossier.specs.Judging.{activities}
use Rattle.dossier.proofs.ReaderLaws.{bind_no, bind-yes}
use Rattle.cursor.specs.Says.{says}
use Rattle.activities.specs.Answers.{RecordsSaid, summed_activities}

refused_as : (s : List ℕ) (n : ℕ) → activities [] s ≡ refused n → refused n ≡ summed_activities s
unfolding summed_activities
refused_as s n e = bind_no (activities []) _ _ _ (sym e)

-- what stopped the reading, where no two are equal
module _ (old : List ℕ) (records : List Activity) (new : List ℕ) where
  stopped_says : (r : Result Grams Refusal) → IfOk r (λ grams. grams.0 ≡ pos (activity_emissions records)) → activities [] old ≡ says (λ grams. records) r new
      → says (λ grams. grams) r new ≡ summed_activities old
  unfolding summed_activities give
  stopped_says (Ok grams) h e =
      (λ i. accepted (record { 0 = h i }) new)
      ∙ bind-yes (activities []) _ old records new (sym e)
  stopped_says (Err refusal) h e = refused_as old (number_of refusal) e

  stopped_small : (r : Result Grams Refusal) → IfOk r (λ grams. grams.0 ≡ pos (activity_emissions records)) → ActivitiesInRange records → length records ≤ 60
      → IfOk r (λ grams. mag grams.0 ≤ greatest_activity)
  stopped_small (Ok grams) h p n = rw h (omega (arith, emissions-le records p))
  stopped_small (Err refusal) h p n = tt

module _ {old : List ℕ} {keys : List Words} {r : Result Grams Refusal} {new : List ℕ} (h : RecordsSaid old keys r new) where
  pub two_equal : true ≡ some_equal keys → refused 14 ≡ summed_activities old
  two_equal t = refused_as old 14 (rw (← t) at h.judged)

  pub none_equal : false ≡ some_equal keys → says (λ grams. grams) r new ≡ summed_activities old
  none_equal f = stopped_says old h.records new r h.summed (rw (← f) at h.judged)

  pub sum_small : IfOk r (λ grams. mag grams.0 ≤ greatest_activity)
  sum_small = stopped_small old h.records new r h.summed h.keyed.in_range h.keyed.few
