-- Keys in two lists of words that may go on after them: one key more, by its place, and the keys passed so far.
-- Assumes nothing.
use Prim.Native.Nat.{ℕ, zero, suc, ◌+◌, ◌-◌, ◌≤◌, ◌<◌}
use mathlib.Core.Path.{◌≡◌, refl}
use mathlib.Core.Bool.{Bool, true, false, cond, ◌||◌, ◌&&◌}
use mathlib.Core.List.{List, [], ◌∷◌, ◌++◌, append-nil}
use native.Mathlib.Numerals.{add-one}
use native.Mathlib.Omega.{arith}
use lib.Dec.{eqb}
use lib.ListN.{length, take, get_or, set}
use lib.Seq.{append_snoc, take-suc-set, take-add, set-get_or}
use Rattle.std.proofs.lemmas.List.Folds.{list_any-append}
use Rattle.activity.specs.declared.Words.{Words}
use Rattle.activity.specs.Key.{two_words}
use Rattle.pairs.specs.Pairs.{keys, same_key, is_among, some_equal, slot}
use Rattle.pairs.proofs.PairsLaws.{keys_length, key_at, equal-more, Passed, passed_more}

-- ---- either of two tests, as a choice
pub or_cond : (a b : Bool) → (a || b) ≡ cond a true b
or_cond true b = refl
or_cond false b = refl

pub or_assoc : (a b c : Bool) → cond a true (cond b true c) ≡ cond (cond a true b) true c
or_assoc true b c = refl
or_assoc false b c = refl

pub or_false : (a : Bool) → cond a true false ≡ a
or_false true = refl
or_false false = refl

pub or_true : (a : Bool) → cond a true true ≡ true
or_true true = refl
or_true false = refl

pub or_swap : (a b c d : Bool) → cond (cond a true b) true (cond c true d) ≡ cond (cond a true c) true (cond b true d)
or_swap true b c d = refl
or_swap false true true d = refl
or_swap false true false d = refl
or_swap false false c d = refl

-- ---- a key stored after the first k
pub keys-set : (low high : List ℕ) (k x y : ℕ) → keys (set low k x) (set high k y) ≡ set (keys low high) k (two_words x y)
unfolding keys
keys-set [] high k x y = refl
keys-set (a ∷ low) [] zero x y = refl
keys-set (a ∷ low) [] (suc k) x y = refl
keys-set (a ∷ low) (b ∷ high) zero x y = refl
keys-set (a ∷ low) (b ∷ high) (suc k) x y = rw (keys-set low high k x y)

module _ (low high : List ℕ) (k : ℕ) (p : k < length low) (q : k < length high) where
  pub keys-more : (x y : ℕ) → take (k + 1) (keys (set low k x) (set high k y)) ≡ take k (keys low high) ++ (two_words x y ∷ [])
  keys-more x y =
      let here : k < length (keys low high) = omega (arith, keys_length low high) in
      rw (add-one, keys-set, take-suc-set (keys low high) k (two_words x y) here)

  -- the first k, and the one that stands after them
  keys-next : take (k + 1) (keys low high) ≡ take k (keys low high) ++ (key_at low high k ∷ [])
  keys-next = rw (set-get_or low k 0, set-get_or high k 0) at (keys-more (get_or low k 0) (get_or high k 0))

-- ---- one key more looked at
among_more : (l : List Words) (y x : Words) → is_among (l ++ (y ∷ [])) x ≡ (is_among l x || same_key y x)
among_more l y x = rw (list_any-append (λ z. same_key z x) l (y ∷ []), plain (same_key y x))
  where
    plain : (a : Bool) → (a || false) ≡ a
    plain true = refl
    plain false = refl

pub among_next : {found : Bool} (low high : List ℕ) (k : ℕ) (x : Words) → k < length low → k < length high → found ≡ is_among (take k (keys low high)) x
    → (found || (eqb (get_or low k 0) x.low && eqb (get_or high k 0) x.high)) ≡ is_among (take (k + 1) (keys low high)) x
unfolding same_key
among_next low high k x p q e = rw (keys-next low high k p q, among_more (take k (keys low high)) (key_at low high k) x, e)

-- ---- a key that is among the earlier ones
equal_stays : (l m : List Words) → some_equal l ≡ true → some_equal (l ++ m) ≡ true
equal_stays l [] e = rw append-nil e
equal_stays l (x ∷ m) e = rw (← append_snoc l x m) (equal_stays (l ++ (x ∷ [])) m (rw (equal-more, e)))

pub equal_found : (low high : List ℕ) (k n : ℕ) → k < n → n ≤ length low → n ≤ length high → is_among (take k (keys low high)) (key_at low high k) ≡ true
    → some_equal (take n (keys low high)) ≡ true
equal_found low high k n h p q e =
    let z : n ≡ (k + 1) + (n - (k + 1)) = omega arith in
    let both : some_equal (take (k + 1) (keys low high)) ≡ true = rw (keys-next low high k (omega arith) (omega arith), equal-more, e) (either (some_equal (take k (keys low high)))) in
    rw (z, take-add) (equal_stays (take (k + 1) (keys low high)) _ both)
  where
    either : (a : Bool) → (a || true) ≡ true
    either true = refl
    either false = refl

-- ---- fewer than two keys
pub few-differ : (n : ℕ) (l : List Words) → n < 2 → some_equal (take n l) ≡ false
unfolding some_equal
few-differ zero l h = refl
few-differ (suc zero) [] h = refl
few-differ (suc zero) (x ∷ l) h = refl
few-differ (suc (suc n)) l h = absurd (omega arith)

-- ---- the keys passed, and one more
pub passed_next : {flags : List Bool} (low high : List ℕ) (k i : ℕ) → Passed flags (take k (keys low high)) → k < length low → k < length high
    → i ≡ slot (key_at low high k) → i < 1021 → is_among (take k (keys low high)) (key_at low high k) ≡ false
    → Passed (set flags i true) (take (k + 1) (keys low high))
passed_next low high k i d p q e b n = rw (keys-next low high k p q, e) (passed_more d (key_at low high k) (rw e at b) n)
