-- Equal keys, the keys of two lists of words, lists of keys with one key more, and the flags of the keys passed.
-- Assumes nothing.
use Prim.Native.Nat.{ℕ, zero, suc, ◌+◌, ◌≤◌, ◌<◌, min}
use mathlib.Core.Path.{◌≡◌, refl, sym, ◌∙◌, subst}
use mathlib.Core.Bool.{Bool, true, false, ◌||◌, ◌&&◌, false≢true}
use mathlib.Core.List.{List, [], ◌∷◌, ◌++◌, append-nil}
use native.Mathlib.Omega.{arith}
use lib.Dec.{eqb}
use native.Mathlib.Numerals.{add-one}
use lib.ListN.{length, take, drop, get_or, set, replicate, length-set, length-replicate}
use lib.Seq.{append_snoc, take-suc, get_or-set_same, get_or-set_other}
use borrow.Author.Tests.{eq-eqb, eqb-true, eqb-false}
use Rattle.std.proofs.lemmas.List.{take_all, take-append-drop}
use Rattle.std.proofs.lemmas.List.Folds.{list_any-append, list_any_more}
use Rattle.activity.specs.declared.Words.{Words}
use Rattle.activity.specs.Key.{two_words}
use Rattle.pairs.specs.Pairs.{keys, same_key, is_among, some_equal, slot}

-- ---- either of two tests
or_false : (a : Bool) → (a || false) ≡ a
or_false true = refl
or_false false = refl

or_true : (a : Bool) → (a || true) ≡ true
or_true true = refl
or_true false = refl

or_swap : (a b c d : Bool) → ((a || b) || (c || d)) ≡ ((a || c) || (b || d))
or_swap true b c d = refl
or_swap false true true d = refl
or_swap false true false d = refl
or_swap false false c d = refl

-- both of two tests
and_both : (a b : Bool) → (a && b) ≡ true → (a ≡ true) × (b ≡ true)
and_both true b e = (refl, e)
and_both false b e = (cc, cc)

-- ---- equal keys
words_eq : {x y x' y' : ℕ} → x ≡ x' → y ≡ y' → ◌≡◌ {A = Words} (two_words x y) (two_words x' y')
words_eq p q = cc

pub same_key_true : (a b : Words) → same_key a b ≡ true → a ≡ b
unfolding same_key
same_key_true a b e =
    let (p, q) = and_both (eqb a.low b.low) (eqb a.high b.high) e in
    words_eq (eqb-true a.low b.low p) (eqb-true a.high b.high q)

pub eq-same_key : (a b : Words) → a ≡ b → same_key a b ≡ true
unfolding same_key
eq-same_key a b e = rw (eq-eqb a.low b.low (cc), eq-eqb a.high b.high (cc))

pub ne-same_key : (a b : Words) → (a ≡ b → ⊥) → same_key a b ≡ false
ne-same_key a b n = go (same_key a b) (same_key_true a b)
  where
    go : (t : Bool) → (t ≡ true → a ≡ b) → t ≡ false
    go true f = absurd (n (f refl))
    go false f = refl

same_key_swap : (a b : Words) → same_key a b ≡ same_key b a
same_key_swap a b = go (same_key b a) refl
  where
    go : (t : Bool) → same_key b a ≡ t → same_key a b ≡ t
    go true e = eq-same_key a b (sym (same_key_true b a e))
    go false e = ne-same_key a b (λ p. false≢true (sym e ∙ eq-same_key b a (sym p)))

-- ---- the keys of two lists of words
pub keys_length : (low high : List ℕ) → length (keys low high) ≡ min (length low) (length high)
unfolding keys
keys_length [] high = omega arith
keys_length (x ∷ low) [] = omega arith
keys_length (x ∷ low) (y ∷ high) = omega (arith, keys_length low high)

pub keys_none : keys [] [] ≡ []
unfolding keys
keys_none = refl

pub keys_more : (low high : List ℕ) (x y : ℕ) → length low ≡ length high → keys (low ++ x ∷ []) (high ++ y ∷ []) ≡ keys low high ++ two_words x y ∷ []
unfolding keys
keys_more [] [] x y e = refl
keys_more [] (b ∷ high) x y e = absurd (omega arith)
keys_more (a ∷ low) [] x y e = absurd (omega arith)
keys_more (a ∷ low) (b ∷ high) x y e = rw (keys_more low high x y (omega arith))

pub keys_take : (k : ℕ) (low high : List ℕ) → keys (take k low) (take k high) ≡ take k (keys low high)
unfolding keys
keys_take zero low high = refl
keys_take (suc k) [] high = refl
keys_take (suc k) (x ∷ low) [] = refl
keys_take (suc k) (x ∷ low) (y ∷ high) = rw (keys_take k low high)

-- the key at a place
abbrev pub key_at : (low high : List ℕ) (k : ℕ) → Words
key_at low high k = two_words (get_or low k 0) (get_or high k 0)

pub keys_at : (low high : List ℕ) (k : ℕ) (d : Words) → k < length low → k < length high → get_or (keys low high) k d ≡ key_at low high k
unfolding keys
keys_at [] high k d p q = absurd (omega arith)
keys_at (x ∷ low) [] k d p q = absurd (omega arith)
keys_at (x ∷ low) (y ∷ high) zero d p q = refl
keys_at (x ∷ low) (y ∷ high) (suc k) d p q = keys_at low high k d (omega arith) (omega arith)

-- ---- one key more
among-more : (l : List Words) (y x : Words) → is_among (l ++ (y ∷ [])) x ≡ (is_among l x || same_key y x)
among-more l y x = rw (list_any-append (λ z. same_key z x) l (y ∷ []), or_false (same_key y x))

pub equal-more : (l : List Words) (x : Words) → some_equal (l ++ (x ∷ [])) ≡ (some_equal l || is_among l x)
unfolding some_equal
equal-more [] x = refl
equal-more (y ∷ l) x = rw (among-more l x y, equal-more l x, same_key_swap x y) (or_swap (is_among l y) (same_key y x) (some_equal l) (is_among l x))

-- ---- more keys do not part two that are equal
equal_stays : (l m : List Words) → some_equal l ≡ true → some_equal (l ++ m) ≡ true
equal_stays l [] e = rw append-nil e
equal_stays l (x ∷ m) e = rw (← append_snoc l x m) (equal_stays (l ++ (x ∷ [])) m (rw (equal-more, e)))

-- all of them
keys_whole : (low high : List ℕ) (k : ℕ) → length low ≤ k → take k (keys low high) ≡ keys low high
keys_whole low high k p = take_all k (keys low high) (omega (arith, keys_length low high))

-- one key more looked at
pub among_next : {found : Bool} (low high : List ℕ) (k : ℕ) (x : Words) → k < length low → length low ≡ length high → found ≡ is_among (take k (keys low high)) x
    → (found || (eqb (get_or low k 0) x.low && eqb (get_or high k 0) x.high)) ≡ is_among (take (k + 1) (keys low high)) x
unfolding same_key
among_next low high k x p q e =
    let here : k < length (keys low high) = omega (arith, keys_length low high) in
    rw (list_any_more (λ y. same_key y x) (keys low high) k x here, keys_at low high k x p (omega arith), e)

-- the first k, and the one that stands after them
keys_next : (low high : List ℕ) (k : ℕ) → k < length low → length low ≡ length high → take (k + 1) (keys low high) ≡ take k (keys low high) ++ (key_at low high k ∷ [])
keys_next low high k p q =
    let here : k < length (keys low high) = omega (arith, keys_length low high) in
    rw (add-one, take-suc (keys low high) k (key_at low high k) here, keys_at low high k (key_at low high k) p (omega arith)) refl

pub among_whole : {found : Bool} (low high : List ℕ) (k : ℕ) (x : Words) → length low ≤ k → found ≡ is_among (take k (keys low high)) x → found ≡ is_among (keys low high) x
among_whole low high k x p e = rw (keys_whole low high k p) at e

-- a key that is among the earlier ones
pub equal_found : (low high : List ℕ) (k : ℕ) → k < length low → length low ≡ length high → is_among (keys (take k low) (take k high)) (key_at low high k) ≡ true
    → some_equal (keys low high) ≡ true
equal_found low high k p q e =
    let found : is_among (take k (keys low high)) (key_at low high k) ≡ true = rw (← keys_take k low high) e in
    let both : some_equal (take (k + 1) (keys low high)) ≡ true = rw (keys_next low high k p q, equal-more, found) (or_true (some_equal (take k (keys low high)))) in
    subst (λ (l : List Words). some_equal l ≡ true) (take-append-drop (k + 1) (keys low high)) (equal_stays (take (k + 1) (keys low high)) (drop (k + 1) (keys low high)) both)

-- ---- fewer than two keys
pub few-differ : (l : List Words) → length l < 2 → some_equal l ≡ false
unfolding some_equal
few-differ [] h = refl
few-differ (x ∷ []) h = refl
few-differ (x ∷ y ∷ l) h = absurd (omega arith)

-- ---- the keys passed: all differ, and the flag of each is set
pub record Passed (flags : List Bool) (l : List Words) : Type 0 where
  pub long : length flags ≡ 1021
  pub differ : some_equal l ≡ false
  pub flagged : (x : Words) → is_among l x ≡ true → get_or flags (slot x) false ≡ true

pub none_passed : Passed (replicate 1021 false) []
unfolding some_equal
none_passed = record {
  long = length-replicate 1021 false;
  differ = refl;
  flagged = λ x e. cc;
}

-- a key whose flag is not set is none of them
pub unflagged : {flags : List Bool} {l : List Words} → Passed flags l → (x : Words) (i : ℕ) → i ≡ slot x → get_or flags i false ≡ false → is_among l x ≡ false
unflagged {flags} {l} p x i s e = go (is_among l x) (p.flagged x)
  where
    go : (b : Bool) → (b ≡ true → get_or flags (slot x) false ≡ true) → b ≡ false
    go true f = sym (f refl) ∙ rw (← s) e
    go false f = refl

flag_stays : (flags : List Bool) (i j : ℕ) → i < length flags → get_or flags j false ≡ true → get_or (set flags i true) j false ≡ true
flag_stays flags i j l e = go (eqb j i) (eqb-true j i) (eqb-false j i)
  where
    go : (b : Bool) → (b ≡ true → j ≡ i) → (b ≡ false → j ≡ i → ⊥) → get_or (set flags i true) j false ≡ true
    go true f g = rw (f refl) (get_or-set_same flags i true false l)
    go false f g = get_or-set_other flags i j true false (g refl) ∙ e

-- one that is none of them is passed, once its flag is set
module _ {flags : List Bool} {l : List Words} (p : Passed flags l) (x : Words) (h : slot x < 1021) where
  flags_more : (y : Words) (b : Bool) → (b ≡ true → get_or flags (slot y) false ≡ true) → (d : Bool) → (d ≡ true → x ≡ y) → (b || d) ≡ true
      → get_or (set flags (slot x) true) (slot y) false ≡ true
  flags_more y true f d g e = flag_stays flags (slot x) (slot y) (omega (arith, p.long)) (f refl)
  flags_more y false f d g e = rw (← g e) (get_or-set_same flags (slot x) true false (omega (arith, p.long)))

  pub passed_more : is_among l x ≡ false → Passed (set flags (slot x) true) (l ++ (x ∷ []))
  passed_more n = record {
    long = length-set flags (slot x) true ∙ p.long;
    differ = equal-more l x ∙ rw (p.differ, n);
    flagged = λ y e. flags_more y (is_among l y) (p.flagged y) (same_key x y) (same_key_true x y) (sym (among-more l x y) ∙ e);
  }

pub passed_next : {flags : List Bool} (low high : List ℕ) (k i : ℕ) → Passed flags (take k (keys low high)) → k < length low → length low ≡ length high
    → i ≡ slot (key_at low high k) → i < 1021 → is_among (take k (keys low high)) (key_at low high k) ≡ false
    → Passed (set flags i true) (take (k + 1) (keys low high))
passed_next low high k i d p q e b n = rw (keys_next low high k p q, e) (passed_more d (key_at low high k) (rw e at b) n)

pub differ_whole : {flags : List Bool} (low high : List ℕ) (k : ℕ) → length low ≤ k → Passed flags (take k (keys low high)) → false ≡ some_equal (keys low high)
differ_whole low high k p passed = sym (rw (keys_whole low high k p) at passed.differ)

-- what the attributes use
pub ruleset scanned = (among_next, among_whole)

pub ruleset pushed = (keys_none, keys_more, keys_length)

pub ruleset equals = (few-differ, equal_found, none_passed, differ_whole, keys_length)
