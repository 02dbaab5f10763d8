-- Records whose keys stand in two lists of sixty words: what one more record does to them; and what was read of a run.
-- Assumes nothing.
use Prim.Native.Nat.{ℕ, ◌+◌, ◌≤◌}
use mathlib.Core.Path.{◌≡◌}
use mathlib.Core.Bool.{cond}
use mathlib.Core.List.{List, [], ◌∷◌, ◌++◌}
use native.Mathlib.Omega.{arith}
use lib.ListN.{length, take, set}
use Rattle.std.specs.Prelude.{Result, Ok, IfOk}
use Rattle.std.specs.Int.Signed.{mag}
use Rattle.units.specs.declared.Grams.{Grams}
use Rattle.classes.specs.Ranges.{greatest_activity}
use Rattle.refusals.specs.declared.Refusal.{Refusal}
use Rattle.activity.specs.Records.{Activity}
use Rattle.activity.specs.declared.Words.{Words}
use Rattle.activity.specs.Activity.{ActivityInRange}
use Rattle.activity.specs.Key.{key}
use Rattle.pairs.specs.Pairs.{keys, some_equal}
use Rattle.pairs.proofs.PlacesLaws.{keys-more}
use Rattle.dossier.specs.Layouts.{fresh}
use Rattle.dossier.specs.Reader.{Judged, refused, accepted}
use Rattle.cursor.specs.Says.{says}
use Rattle.activities.specs.Answers.{Keyed}
use Rattle.activities.proofs.KeyedLaws as K

module _ {records : List Activity} (low high : List ℕ) (count : ℕ) (h : Keyed records (take count (keys low high))) (room : (length low ≡ 60) × (length high ≡ 60)) (few : count ≤ 60)
    (less : count ≡ 60 → ⊥) (a : Activity) (p : ActivityInRange a) (k : Words) (e : k ≡ key a) where
  pub words_more : take (count + 1) (keys (set low count k.low) (set high count k.high)) ≡ take count (keys low high) ++ (k ∷ [])
  words_more = keys-more low high count (omega (arith, few, room.0, less)) (omega (arith, few, room.1, less)) k.low k.high

  -- 14 for two that were equal before, or for the record where it is one of those before; otherwise the run goes on
  pub judged-more : {A : Type 0} (before after : Judged A) → before ≡ cond (fresh records a) after (refused 14)
      → cond (some_equal (take count (keys low high))) (refused 14) before
      ≡ cond (some_equal (take (count + 1) (keys (set low count k.low) (set high count k.high)))) (refused 14) after
  judged-more before after d = rw (words_more, e) (K.judged-more h a p before after d)

-- ---- what was read of a part: the sum, and its range
pub run_was-read : (rest : List ℕ) (r : Result Grams Refusal) (j : Judged Grams) → says (λ grams. grams) r rest ≡ j → (grams : Grams) → r ≡ Ok grams → IfOk r (λ grams. mag grams.0 ≤ greatest_activity)
    → (accepted grams rest ≡ j) × (mag grams.0 ≤ greatest_activity)
run_was-read rest r j h grams e small = (rw e at h, rw e at small)
