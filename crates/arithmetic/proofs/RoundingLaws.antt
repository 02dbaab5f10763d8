-- What the roundings are, and how a product that passes 64 bits is divided in two steps.
-- Assumes nothing.
use mathlib.Core.Path.{◌≡◌}
use Prim.Native.Nat.{ℕ, ◌+◌, ◌-◌, ◌*◌, ◌/◌, ◌%◌, ◌≤◌, ◌<◌}
use native.Mathlib.Nat.{
  div-add-mod',
  add-mul-div_right,
  div-mul-le_self,
  lt-div-mul-add,
  lt_of_mul-lt-mul_right,
  le_antisymm,
  le_of_mul-le-mul_left,
  mul-le-mul_left,
  mul-pos,
}
use native.Mathlib.Omega.{arith}
use Rattle.arithmetic.specs.Rounding.{ceil_div}

-- the least q whose product with d is not below n
pub ceil_div-is : (n d : ℕ) → 0 < d → (n ≤ ceil_div n d * d) × (ceil_div n d * d < n + d)
unfolding ceil_div
ceil_div-is n d h = (omega (arith, lt-div-mul-add {a = n + (d - 1)} h), omega (arith, div-mul-le_self (n + (d - 1)) d))

pub ceil_div-le : (n d q : ℕ) → 0 < d → n ≤ q * d → ceil_div n d ≤ q
ceil_div-le n d q h k =
    let l : ceil_div n d < q + 1 = lt_of_mul-lt-mul_right d (omega (arith, ceil_div-is n d h)) in
    omega arith

-- ---- a quotient's multiple, and the remainder's quotient
split_parts : (c n m s : ℕ) → c * n + s ≡ c % m * n + s + c / m * n * m
split_parts c n m s = go (c / m) (c % m) (div-add-mod' c m)
  where
    go : (q r : ℕ) → q * m + r ≡ c → c * n + s ≡ r * n + s + q * n * m
    go q r e = rw (← e) (omega arith)

pub split_down : (c n m : ℕ) → 0 < m → c / m * n + c % m * n / m ≡ c * n / m
split_down c n m h =
    let e : c * n ≡ c % m * n + c / m * n * m = omega (arith, split_parts c n m 0) in
    rw (e, add-mul-div_right (c % m * n) (c / m * n) h) (omega arith)

pub split_up : (c n m : ℕ) → 0 < m → c / m * n + ceil_div (c % m * n) m ≡ ceil_div (c * n) m
unfolding ceil_div
split_up c n m h = rw (split_parts c n m (m - 1), add-mul-div_right (c % m * n + (m - 1)) (c / m * n) h) (omega arith)

-- a factor of both
pub cancel_up : (k a d : ℕ) → 0 < k → 0 < d → ceil_div (k * a) (k * d) ≡ ceil_div a d
cancel_up k a d h l =
    let whole = ceil_div-is (k * a) (k * d) (mul-pos h l) in
    let part = ceil_div-is a d l in
    le_antisymm
    (ceil_div-le (k * a) (k * d) (ceil_div a d) (mul-pos h l) (omega (arith, mul-le-mul_left k part.0)))
    (ceil_div-le a d (ceil_div (k * a) (k * d)) l (le_of_mul-le-mul_left {k = k} (omega (arith, whole.0)) h))
