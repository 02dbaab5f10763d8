-- Records and their keys: two records in range are equal just where their keys are, and what one more record does to the keys.
-- Assumes nothing.
use Prim.Native.Nat.{◌<◌}
use mathlib.Core.Path.{◌≡◌, refl, ap, sym}
use mathlib.Core.Bool.{Bool, true, false, cond, ◌||◌}
use mathlib.Core.List.{List, [], ◌∷◌, ◌++◌, map}
use native.Mathlib.Omega.{arith}
use lib.ListN.{length, length-append}
use Rattle.activity.specs.Records.{Activity}
use Rattle.activity.specs.declared.Words.{Words}
use Rattle.activity.specs.Activity.{ActivityInRange, ActivitiesInRange}
use Rattle.activity.specs.Key.{key}
use Rattle.activity.proofs.KeyLaws.{key_tells}
use Rattle.pairs.specs.Pairs.{same_key, is_among, some_equal}
use Rattle.pairs.proofs.PairsLaws.{eq-same_key, ne-same_key, equal-more}
use Rattle.dossier.specs.Layouts.{same, fresh}
use Rattle.dossier.specs.Reader.{Judged, refused}
use Rattle.dossier.proofs.SameLaws.{false_true, same-eq, same_itself}
use Rattle.activities.specs.Answers.{Keyed}

key-same : (a b : Activity) → ActivityInRange a → ActivityInRange b → same_key (key b) (key a) ≡ same a b
key-same a b p q = go (same a b) refl
  where
    go : (t : Bool) → same a b ≡ t → same_key (key b) (key a) ≡ t
    go true e = eq-same_key _ _ (ap key (sym (same-eq a b e)))
    go false e = ne-same_key _ _ (λ k. false_true e (rw (key_tells b a q p k) (same_itself a)))

-- a key is among those of other records just where the record is one of them
key-among : (l : List Activity) (a : Activity) → ActivitiesInRange l → ActivityInRange a → is_among (map key l) (key a) ≡ cond (fresh l a) false true
unfolding fresh
key-among [] a p q = refl
key-among (b ∷ l) a p q = rw (key-same a b q p.0, key-among l a p.1 q) (go (same a b))
  where
    go : (t : Bool) → (t || cond (fresh l a) false true) ≡ cond (cond t false (fresh l a)) false true
    go true = refl
    go false = refl

-- ---- one more record
in_range-more : (l : List Activity) (a : Activity) → ActivitiesInRange l → ActivityInRange a → ActivitiesInRange (l ++ (a ∷ []))
in_range-more [] a h k = (k, tt)
in_range-more (b ∷ l) a h k = (h.0, in_range-more l a h.1 k)

map_more : (l : List Activity) (a : Activity) → map key (l ++ (a ∷ [])) ≡ map key l ++ (key a ∷ [])
map_more [] a = refl
map_more (b ∷ l) a = ap (λ (r : List Words). key b ∷ r) (map_more l a)

module _ {records : List Activity} {keys : List Words} (h : Keyed records keys) (a : Activity) (p : ActivityInRange a) where
  pub keyed-more : length records < 60 → Keyed (records ++ (a ∷ [])) (keys ++ (key a ∷ []))
  keyed-more room = record {
    few = simp length-append (omega arith);
    in_range = in_range-more records a h.in_range p;
    told = rw (h.told, map_more) refl;
  }

  -- 14 for two that were equal before, or for the record where it is one of those before; otherwise the run goes on
  pub judged-more : {A : Type 0} (before after : Judged A) → before ≡ cond (fresh records a) after (refused 14)
      → cond (some_equal keys) (refused 14) before ≡ cond (some_equal (keys ++ (key a ∷ []))) (refused 14) after
  judged-more before after d =
      rw (equal-more, d, h.told, key-among records a h.in_range p) (go (some_equal (map key records)) (fresh records a))
    where
      go : (t f : Bool) → cond t (refused 14) (cond f after (refused 14)) ≡ cond (t || cond f false true) (refused 14) after
      go true f = refl
      go false true = refl
      go false false = refl
