-- A list stored in another, part by part.
-- Assumes nothing.
use mathlib.Core.Path.{◌≡◌, ◌∙◌, sym}
use mathlib.Core.List.{List, [], ◌∷◌, ◌++◌, append-nil, append_assoc}
use Prim.Native.Nat.{ℕ, zero, suc, ◌+◌}
use native.Mathlib.Nat.{add-zero, add-suc}
use native.Mathlib.Numerals.{add-one}
use native.Mathlib.Omega.{arith}
use lib.ListN.{length, set, drop_of_length-le}
use lib.Seq.{sets, sets-eq}
use Rattle.arithmetic.specs.Sum.{listed}
use Rattle.arithmetic.proofs.SumLaws.{length-listed}

-- to store a list, and another behind it, is to store both joined
pub sets_append : {A : Type 0} (l : List A) (i : ℕ) (xs ys : List A) → sets l i (xs ++ ys) ≡ sets (sets l i xs) (i + length xs) ys
sets_append l i [] ys = rw add-zero
sets_append l i (x ∷ xs) ys =
    let e : i + suc (length xs) ≡ suc i + length xs = omega arith in
    rw e (sets_append (set l i x) (suc i) xs ys)

-- one part more is stored
pub stored_next : {A : Type 0} (l m : List A) (k at : ℕ) (xs ys zs : List A) → m ≡ sets l k xs → at ≡ k + length xs → zs ≡ xs ++ ys → sets m at ys ≡ sets l k zs
stored_next l m k at xs ys zs p e f = rw (p, e, f) (sym (sets_append l k xs ys))

-- all is stored
pub all-stored : {A : Type 0} (l xs : List A) → length l ≡ length xs → sets l 0 xs ≡ xs
all-stored l xs e = sets-eq xs l 0 (omega arith) ∙ rw (drop_of_length-le l {i = 0 + length xs} (omega arith)) (append-nil xs)

-- ---- lists by their entries
listed-add : {A : Type 0} (n m : ℕ) (f : ℕ → A) → listed (n + m) f ≡ listed n f ++ listed m (λ j. f (n + j))
unfolding listed
listed-add n zero f = rw add-zero (sym (append-nil (listed n f)))
listed-add n (suc m) f = rw (add-suc, listed-add n m f, append_assoc)

-- m entries more are stored
pub entries-stored : {A : Type 0} (l r : List A) (k at n m : ℕ) (f : ℕ → A) → r ≡ sets l k (listed n f) → at ≡ k + n
    → sets r at (listed m (λ j. f (n + j))) ≡ sets l k (listed (n + m) f)
entries-stored l r k at n m f p e = stored_next l r k at (listed n f) _ _ p (rw (length-listed n f) e) (listed-add n m f)

-- the next entry is stored
pub entry-stored : {A : Type 0} (l r : List A) (k n : ℕ) (f : ℕ → A) (x : A) → r ≡ sets l k (listed n f) → x ≡ f n → set r (k + n) x ≡ sets l k (listed (n + 1) f)
unfolding listed
entry-stored l r k n f x p e = stored_next l r k (k + n) (listed n f) (x ∷ []) (listed (n + 1) f) p (rw (length-listed n f)) (rw (add-one, e))
