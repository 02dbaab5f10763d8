-- Laws of sums over the numbers below n, and of lists by their entries.
-- Assumes nothing.
use mathlib.Core.Path.{◌≡◌, refl, ◌∙◌}
use mathlib.Core.Bool.{Bool, true, false}
use mathlib.Core.Logic.{◌⊎◌, inl, inr}
use mathlib.Core.List.{[], ◌∷◌, ◌++◌}
use Prim.Native.Nat.{ℕ, zero, suc, ◌+◌, ◌*◌, ◌≤◌, ◌<◌}
use native.Mathlib.Nat.{le_refl, le_step, eq-or-lt_of_le, le_of_suc-le-suc}
use native.Mathlib.Numerals.{add-one}
use native.Mathlib.Omega.{arith}
use lib.Dec.{ltb}
use lib.ListN.{length, get_or, length-append, get_or-append, get_or-eq_default}
use lib.Seq.{get_or_at}
use borrow.Author.Tests.{ltb-true, ltb-false}
use Rattle.arithmetic.specs.Sum.{sum, listed}

-- for a loop that adds one term a turn
pub sum-none : (f : ℕ → ℕ) → sum 0 f ≡ 0
unfolding sum
sum-none f = refl

pub sum-next : (n : ℕ) (f : ℕ → ℕ) → sum (n + 1) f ≡ sum n f + f n
unfolding sum
sum-next n f = rw add-one refl

pub sum_cong : (n : ℕ) (f g : ℕ → ℕ) → ((i : ℕ) → i < n → f i ≡ g i) → sum n f ≡ sum n g
unfolding sum
sum_cong zero f g e = refl
sum_cong (suc n) f g e = omega (arith, sum_cong n f g (λ i h. e i (le_step h)), e n (le_refl (suc n)))

pub sum-le : (n : ℕ) (f g : ℕ → ℕ) → ((i : ℕ) → i < n → f i ≤ g i) → sum n f ≤ sum n g
unfolding sum
sum-le zero f g e = omega arith
sum-le (suc n) f g e = omega (arith, sum-le n f g (λ i h. e i (le_step h)), e n (le_refl (suc n)))

pub sum-add : (n : ℕ) (f g : ℕ → ℕ) → sum n (λ i. f i + g i) ≡ sum n f + sum n g
unfolding sum
sum-add zero f g = refl
sum-add (suc n) f g = omega (arith, sum-add n f g)

pub sum-mul : (n : ℕ) (f : ℕ → ℕ) (c : ℕ) → sum n (λ i. f i * c) ≡ sum n f * c
unfolding sum
sum-mul zero f c = omega arith
sum-mul (suc n) f c = omega (arith, sum-mul n f c)

pub sum_const : (n c : ℕ) → sum n (λ i. c) ≡ n * c
unfolding sum
sum_const zero c = omega arith
sum_const (suc n) c = omega (arith, sum_const n c)

pub sum_swap : (n m : ℕ) (f : ℕ → ℕ → ℕ) → sum n (λ i. sum m (λ j. f i j)) ≡ sum m (λ j. sum n (λ i. f i j))
unfolding sum
sum_swap zero m f = omega (arith, sum_const m 0)
sum_swap (suc n) m f = omega (arith, sum_swap n m f, sum-add m (λ j. sum n (λ i. f i j)) (λ j. f n j))

-- fewer terms make no more
pub sum_part : (m n : ℕ) (f : ℕ → ℕ) → m ≤ n → sum m f ≤ sum n f
unfolding sum
sum_part m zero f h = let e : m ≡ 0 = omega arith in rw e (le_refl (sum 0 f))
sum_part m (suc n) f h = go (eq-or-lt_of_le h) (λ k. sum_part m n f k)
  where
    go : (m ≡ suc n) ⊎ (m < suc n) → (m ≤ n → sum m f ≤ sum n f) → sum m f ≤ sum n f + f n
    go (inl e) ih = rw e (le_refl (sum n f + f n))
    go (inr k) ih = omega (arith, ih (omega arith))

-- no term is more than the sum
pub term_le : (n : ℕ) (f : ℕ → ℕ) (i : ℕ) → i < n → f i ≤ sum n f
term_le n f i h = omega (arith, sum-next i f, sum_part (i + 1) n f (omega arith))

-- the first m terms and the k after them
pub sum_split : (m k : ℕ) (f : ℕ → ℕ) → sum (m + k) f ≡ sum m f + sum k (λ j. f (m + j))
unfolding sum
sum_split m zero f = let e : m + 0 ≡ m = omega arith in rw e (omega arith)
sum_split m (suc k) f = let e : m + suc k ≡ suc (m + k) = omega arith in rw e (omega (arith, sum_split m k f))

-- n × m terms are n rows of m
pub sum_rows : (n m : ℕ) (f : ℕ → ℕ) → sum (n * m) f ≡ sum n (λ i. sum m (λ j. f (m * i + j)))
unfolding sum
sum_rows zero m f = let e : 0 * m ≡ 0 = omega arith in rw e refl
sum_rows (suc n) m f = let e : suc n * m ≡ m * n + m = omega arith in let e' : n * m ≡ m * n = omega arith in rw e (omega (arith, rw e' at (sum_rows n m f), sum_split (m * n) m f))

-- ---- double sums over n × n
abbrev pub sum2 : ℕ → (ℕ → ℕ → ℕ) → ℕ
sum2 n f = sum n (λ i. sum n (λ j. f i j))

pub sum2_cong : (n : ℕ) (f g : ℕ → ℕ → ℕ) → ((i j : ℕ) → i < n → j < n → f i j ≡ g i j) → sum2 n f ≡ sum2 n g
sum2_cong n f g e = sum_cong n (λ i. sum n (f i)) (λ i. sum n (g i)) (λ i h. sum_cong n (f i) (g i) (λ j h'. e i j h h'))

pub sum2-le : (n : ℕ) (f g : ℕ → ℕ → ℕ) → ((i j : ℕ) → i < n → j < n → f i j ≤ g i j) → sum2 n f ≤ sum2 n g
sum2-le n f g e = sum-le n (λ i. sum n (f i)) (λ i. sum n (g i)) (λ i h. sum-le n (f i) (g i) (λ j h'. e i j h h'))

pub sum2-mul : (n : ℕ) (f : ℕ → ℕ → ℕ) (c : ℕ) → sum2 n (λ i j. f i j * c) ≡ sum2 n f * c
sum2-mul n f c = sum_cong n (λ i. sum n (λ j. f i j * c)) (λ i. sum n (f i) * c) (λ i h. sum-mul n (f i) c) ∙ sum-mul n (λ i. sum n (f i)) c

pub sum2-add : (n : ℕ) (f g : ℕ → ℕ → ℕ) → sum2 n (λ i j. f i j + g i j) ≡ sum2 n f + sum2 n g
sum2-add n f g = sum_cong n (λ i. sum n (λ j. f i j + g i j)) (λ i. sum n (f i) + sum n (g i)) (λ i h. sum-add n (f i) (g i)) ∙ sum-add n (λ i. sum n (f i)) (λ i. sum n (g i))

-- ---- lists by their entries
pub length-listed : {A : Type 0} (n : ℕ) (f : ℕ → A) → length (listed n f) ≡ n
unfolding listed
length-listed zero f = refl
length-listed (suc n) f = length-append (listed n f) (f n ∷ []) ∙ omega (arith, length-listed n f)

pub get_or-listed : {A : Type 0} (n : ℕ) (f : ℕ → A) (i : ℕ) (d : A) → i < n → get_or (listed n f) i d ≡ f i
unfolding listed
get_or-listed zero f i d h = let z : ⊥ = omega arith in absurd z
get_or-listed (suc n) f i d h = go (eq-or-lt_of_le (le_of_suc-le-suc h)) (λ k. get_or-listed n f i d k)
  where
    go : (i ≡ n) ⊎ (i < n) → (i < n → get_or (listed n f) i d ≡ f i) → get_or (listed n f ++ (f n ∷ [])) i d ≡ f i
    go (inl e) ih = rw e (get_or_at (listed n f) (f n) [] d n (length-listed n f))
    go (inr k) ih = get_or-append (listed n f) (f n ∷ []) d i (rw (length-listed n f) k) ∙ ih k

pub listed_cong : {A : Type 0} (n : ℕ) (f g : ℕ → A) → ((i : ℕ) → i < n → f i ≡ g i) → listed n f ≡ listed n g
unfolding listed
listed_cong zero f g e = refl
listed_cong (suc n) f g e = rw (listed_cong n f g (λ i h. e i (le_step h)), e n (le_refl (suc n)))

-- no entry of it is above a bound of f
pub listed_le : (n : ℕ) (f : ℕ → ℕ) (most : ℕ) → ((i : ℕ) → f i ≤ most) → (k : ℕ) → get_or (listed n f) k 0 ≤ most
listed_le n f most h k = go (ltb k n) refl
  where
    go : (b : Bool) → ltb k n ≡ b → get_or (listed n f) k 0 ≤ most
    go true e = rw (get_or-listed n f k 0 (ltb-true k n e)) (h k)
    go false e = rw (get_or-eq_default (listed n f) 0 {n = k} (rw (length-listed n f) (ltb-false k n e))) (omega arith)
