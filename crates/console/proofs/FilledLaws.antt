-- A buffer's filling, byte by byte.
-- Assumes nothing.
use Prim.Native.Nat.{ℕ, zero, suc, ◌+◌, ◌≤◌, ◌<◌}
use mathlib.Core.Path.{◌≡◌, ◌∙◌, refl, ap}
use mathlib.Core.Bool.{Bool, true, false, cond, ◌&&◌}
use mathlib.Core.List.{List}
use native.Mathlib.Numerals.{add-one}
use lib.Dec.{eqb}
use lib.ListN.{length, get_or, drop, replicate, drop_of_length-le}
use lib.Seq.{drop-cons}
use Rattle.console.specs.Filled.{filled}

both : (a b : Bool) → (a && b) ≡ cond a b false
both true b = refl
both false b = refl

pub next : (s : List ℕ) (i : ℕ) → i < length s → filled (drop i s) ≡ cond (eqb (get_or s i 0) 165) (filled (drop (i + 1) s)) false
next s i h =
    let e : i + 1 ≡ suc i = add-one i in
    rw (drop-cons s i 0 h, e) (both (eqb (get_or s i 0) 165) (filled (drop (suc i) s)))

pub filled-so_far : (s : List ℕ) (i : ℕ) → i < length s → eqb (get_or s i 0) 165 ≡ true → filled (drop i s) ≡ filled (drop (i + 1) s)
filled-so_far s i h e = next s i h ∙ rw e

pub not-filled : (s : List ℕ) (i : ℕ) → i < length s → eqb (get_or s i 0) 165 ≡ false → filled (drop i s) ≡ false
not-filled s i h e = next s i h ∙ rw e

pub filled_to-end : (s : List ℕ) (i : ℕ) → length s ≤ i → filled (drop i s) ≡ true
filled_to-end s i h = ap filled (drop_of_length-le s h)

pub filled-replicate : (n : ℕ) → filled (replicate n 165) ≡ true
filled-replicate zero = refl
filled-replicate (suc n) = filled-replicate n
