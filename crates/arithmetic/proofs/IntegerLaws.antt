-- An integer as a difference of naturals, above − below, one of which is 0: so that `omega`, which reads naturals, serves integers too.
-- Assumes nothing.
use mathlib.Core.Path.{◌≡◌, refl, ap}
use mathlib.Core.Bool.{Bool, true, false, not, cond}
use Prim.Native.Nat.{ℕ, zero, suc, ◌+◌, ◌*◌, ◌-◌, ◌≤◌, ◌<◌}
use native.Mathlib.Omega.{arith}
use lib.Dec.{T, ltb, leb→le, le→leb, ltb→lt, lt→ltb, nltb→le}
use lib.IntN.{ℤ, pos, negsuc, sub_ℕ, ◌+ℤ◌, ◌-ℤ◌, ◌*ℤ◌, neg_ℤ}
use lib.Signed.{◌≤ℤ◌, ◌<ℤ◌, mag}
use Rattle.arithmetic.specs.Rounding.{positive_part}

abbrev pub above : ℤ → ℕ
above (pos n) = n
above (negsuc n) = 0

abbrev pub below : ℤ → ℕ
below (pos n) = 0
below (negsuc n) = suc n

-- ---- the orders
pub parts_le : (a b : ℤ) → above a + below b ≤ above b + below a → a ≤ℤ b
parts_le (pos a) (pos b) h = record { le = le→leb a b (omega arith) }
parts_le (pos a) (negsuc b) h = let z : ⊥ = omega arith in absurd z
parts_le (negsuc a) (pos b) h = record { le = tt }
parts_le (negsuc a) (negsuc b) h = record { le = le→leb b a (omega arith) }

pub parts_lt : (a b : ℤ) → above a + below b < above b + below a → a <ℤ b
parts_lt (pos a) (pos b) h = record { lt = lt→ltb a b (omega arith) }
parts_lt (pos a) (negsuc b) h = let z : ⊥ = omega arith in absurd z
parts_lt (negsuc a) (pos b) h = record { lt = tt }
parts_lt (negsuc a) (negsuc b) h = record { lt = lt→ltb b a (omega arith) }

pub le_parts : (a b : ℤ) → a ≤ℤ b → above a + below b ≤ above b + below a
le_parts (pos a) (pos b) h = omega (arith, leb→le a b h.le)
le_parts (pos a) (negsuc b) h = absurd h.le
le_parts (negsuc a) (pos b) h = omega arith
le_parts (negsuc a) (negsuc b) h = omega (arith, leb→le b a h.le)

pub lt_parts : (a b : ℤ) → a <ℤ b → above a + below b < above b + below a
lt_parts (pos a) (pos b) h = omega (arith, ltb→lt a b h.lt)
lt_parts (pos a) (negsuc b) h = absurd h.lt
lt_parts (negsuc a) (pos b) h = omega arith
lt_parts (negsuc a) (negsuc b) h = omega (arith, ltb→lt b a h.lt)

-- ---- the operations
sub_parts : (a b : ℕ) → above (sub_ℕ a b) + b ≡ below (sub_ℕ a b) + a
sub_parts a b = go (ltb a b) (ltb→lt a b) (nltb→le a b)
  where
    go : (t : Bool) → (T t → a < b) → (T (not t) → b ≤ a) → above (cond t (negsuc (b - suc a)) (pos (a - b))) + b ≡ below (cond t (negsuc (b - suc a)) (pos (a - b))) + a
    go true f g = let h : a < b = f tt in omega arith
    go false f g = let h : b ≤ a = g tt in omega arith

pub add_parts : (a b : ℤ) → above (a +ℤ b) + (below a + below b) ≡ below (a +ℤ b) + (above a + above b)
add_parts (pos a) (pos b) = omega arith
add_parts (pos a) (negsuc b) = omega (arith, sub_parts a (suc b))
add_parts (negsuc a) (pos b) = omega (arith, sub_parts b (suc a))
add_parts (negsuc a) (negsuc b) = omega arith

minus-above : (n : ℕ) → above (neg_ℤ (pos n)) ≡ 0
minus-above zero = refl
minus-above (suc n) = refl

minus-below : (n : ℕ) → below (neg_ℤ (pos n)) ≡ n
minus-below zero = refl
minus-below (suc n) = refl

pub neg-above : (a : ℤ) → above (neg_ℤ a) ≡ below a
neg-above (pos n) = minus-above n
neg-above (negsuc n) = refl

pub neg-below : (a : ℤ) → below (neg_ℤ a) ≡ above a
neg-below (pos n) = minus-below n
neg-below (negsuc n) = refl

pub mul-above : (a : ℤ) (n : ℕ) → above (a *ℤ pos n) ≡ above a * n
mul-above (pos a) n = refl
mul-above (negsuc a) n = omega (arith, minus-above (suc a * n))

pub mul-below : (a : ℤ) (n : ℕ) → below (a *ℤ pos n) ≡ below a * n
mul-below (pos a) n = omega arith
mul-below (negsuc a) n = omega (arith, minus-below (suc a * n))

-- two integers of the same parts are one
pub same_parts : (a b : ℤ) → above a + below b ≡ above b + below a → a ≡ b
same_parts (pos a) (pos b) e = let k : a ≡ b = omega arith in rw k
same_parts (pos a) (negsuc b) e = let z : ⊥ = omega arith in absurd z
same_parts (negsuc a) (pos b) e = let z : ⊥ = omega arith in absurd z
same_parts (negsuc a) (negsuc b) e = let k : a ≡ b = omega arith in rw k

-- what is left of a after b, nothing where b is more
pub positive_difference : (a b : ℕ) → positive_part (pos a -ℤ pos b) ≡ pos (a - b)
positive_difference a zero = ap pos (omega arith)
positive_difference a (suc b) = go (ltb a (suc b)) (ltb→lt a (suc b))
  where
    go : (t : Bool) → (T t → a < suc b) → positive_part (cond t (negsuc (suc b - suc a)) (pos (a - suc b))) ≡ pos (a - suc b)
    go true f = let h : a < suc b = f tt in ap pos (omega arith)
    go false f = refl

-- ---- sizes: `mag` is n both of n and of -(n + 1)
sub_mag : (a b : ℕ) → mag (sub_ℕ a (suc b)) ≤ a + b
sub_mag a b = go (ltb a (suc b))
  where
    go : (t : Bool) → mag (cond t (negsuc (suc b - suc a)) (pos (a - suc b))) ≤ a + b
    go true = omega arith
    go false = omega arith

pub mag_plus : (a b : ℤ) → mag (a +ℤ b) ≤ mag a + mag b + 1
mag_plus (pos a) (pos b) = omega arith
mag_plus (pos a) (negsuc b) = omega (arith, sub_mag a b)
mag_plus (negsuc a) (pos b) = omega (arith, sub_mag b a)
mag_plus (negsuc a) (negsuc b) = omega arith

pub mag_minus : (a b : ℤ) → mag (a -ℤ b) ≤ mag a + mag b + 1
mag_minus a (pos zero) = go a
  where
    go : (a : ℤ) → mag (a +ℤ pos 0) ≤ mag a + 0 + 1
    go (pos n) = omega arith
    go (negsuc n) = omega (arith, sub_mag 0 n)
mag_minus a (pos (suc b)) = omega (arith, mag_plus a (negsuc b))
mag_minus (pos a) (negsuc b) = omega arith
mag_minus (negsuc a) (negsuc b) = omega (arith, sub_mag (suc b) a)

pub mag_times : (n : ℕ) (a : ℤ) → mag (pos n *ℤ a) ≤ n * mag a + n
mag_times n (pos a) = omega arith
mag_times n (negsuc a) = omega (arith, minus_mag (n * suc a))
  where
    minus_mag : (k : ℕ) → mag (neg_ℤ (pos k)) ≤ k
    minus_mag zero = omega arith
    minus_mag (suc k) = omega arith
