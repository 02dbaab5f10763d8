-- An array whose first n bytes are lent, and lent again after they came back.
-- Assumes nothing.
use Prim.Native.Nat.{ℕ, ◌≤◌}
use mathlib.Core.Path.{◌≡◌, ◌∙◌, sym}
use mathlib.Core.List.{List, ◌++◌}
use native.Mathlib.Omega.{arith}
use lib.ListN.{length, take, drop, replicate, length-append, length-drop, length-replicate}
use lib.Seq.{length-take-le}

-- as many bytes are lent as are asked for
pub lent : (n : ℕ) (all : List ℕ) → n ≤ length all → n ≡ length (take n all)
lent n all h = sym (length-take-le n all h)

-- the array that came back is as long as before
pub lent_back : (n : ℕ) (piece all : List ℕ) → length piece ≡ length (take n all) → n ≤ length all → length (piece ++ drop n all) ≡ length all
lent_back n piece all e h = omega (arith, length-append piece (drop n all), e, lent n all h, length-drop n all)

-- ---- an array of k equal bytes
pub lent-of-equal : (k b n : ℕ) → n ≤ k → n ≤ length (replicate k b)
lent-of-equal k b n h = omega (arith, length-replicate {A = ℕ} k b)

pub equal_back : (k b n : ℕ) (piece : List ℕ) → length piece ≡ length (take n (replicate k b)) → n ≤ k → length (piece ++ drop n (replicate k b)) ≡ k
equal_back k b n piece e h =
    lent_back n piece (replicate k b) e (lent-of-equal k b n h) ∙ length-replicate {A = ℕ} k b
