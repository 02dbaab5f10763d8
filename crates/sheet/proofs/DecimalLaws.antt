-- Decimal figures: the equation by the last digit, their number, and the number that they say.
-- Assumes nothing.
use Prim.Native.Char.{code}
use Prim.Native.Nat.{ℕ, zero, suc, ◌+◌, ◌-◌, ◌*◌, ◌^◌, ◌/◌, ◌%◌, ◌≤◌, ◌<◌}
use mathlib.Core.Path.{◌≡◌, refl, ◌∙◌, ap}
use mathlib.Core.Bool.{Bool, true, false, cond}
use mathlib.Core.List.{List, [], ◌∷◌, ◌++◌}
use native.Mathlib.Nat.{pow-suc, div-lt_iff_lt-mul, div-add-mod', mod-lt}
use native.Mathlib.Omega.{arith}
use lib.Dec.{ltb, lit<}
use lib.Pow.{pow-add}
use lib.ListN.{length, length-append}
use borrow.Author.Tests.{ltb-true, ltb-false}
use Rattle.std.specs.Prelude.{◌==◌, if◌then◌else◌}
use Rattle.std.specs.Fmt.{decimal, digits, digits_onto, digit_glyph}
use Rattle.std.proofs.lemmas.Fmt.{decimal_digit, decimal_step_wide, decimal_by_steps_wide, length-decimal-le_wide}

-- the digit of a number below 10
abbrev pub digit : ℕ → ℕ
digit n = code "0" + n

-- a tenth has one digit less
pub tenth_lt : (k n : ℕ) → n < 10 ^ suc k → n / 10 < 10 ^ k
tenth_lt k n h = (div-lt_iff_lt-mul (lit< tt)).1 (rw pow-suc at h)

pub decimal_one : (n : ℕ) → n < 10 → decimal n ≡ digit n ∷ []
decimal_one n h = decimal_digit n h

pub decimal-more : (n : ℕ) → 10 ≤ n → n < 10 ^ 20 → decimal n ≡ decimal (n / 10) ++ (digit (n % 10) ∷ [])
decimal-more n h l = decimal_step_wide n h (omega arith)

pub decimal-is : (n : ℕ) → n < 10 ^ 20 → decimal n ≡ cond (ltb n 10) (digit n ∷ []) (decimal (n / 10) ++ (digit (n % 10) ∷ []))
decimal-is n h = go (ltb n 10) (ltb-true n 10) (ltb-false n 10)
  where
    go : (b : Bool) → (b ≡ true → n < 10) → (b ≡ false → 10 ≤ n) → decimal n ≡ cond b (digit n ∷ []) (decimal (n / 10) ++ (digit (n % 10) ∷ []))
    go true few many = decimal_one n (few refl)
    go false few many = decimal-more n (many refl) h

-- ---- their number
few_digits : (k n : ℕ) → n < 10 ^ suc k → k < 64 → length (decimal n) ≤ suc k
few_digits k n h few = length-decimal-le_wide (suc k) n (omega arith) h (wide n (suc k) (omega arith) h)
  where
    wide : (n k : ℕ) → k ≤ 64 → n < 10 ^ k → n < 10 ^ 64
    wide n k l h =
        let e : 64 ≡ k + (64 - k) = omega arith in
        let p : 10 ^ 64 ≡ 10 ^ k * 10 ^ (64 - k) = ap (λ (m : ℕ). 10 ^ m) e ∙ pow-add 10 k (64 - k) in
        let some : 0 < 10 ^ (64 - k) = pow-pos (64 - k) in
        omega (arith, p, some, product (10 ^ k) (10 ^ (64 - k)) some)
      where
        pow-pos : (m : ℕ) → 0 < 10 ^ m
        pow-pos zero = omega arith
        pow-pos (suc m) = omega (arith, pow-pos m)

        product : (a b : ℕ) → 0 < b → a ≤ a * b
        product a zero h = absurd (omega arith)
        product a (suc b) h = omega arith

-- and never more than the 64 that are written
onto_length : (k n : ℕ) (after : List ℕ) → length (digits_onto k 10 false n after) ≤ k + length after
onto_length zero n after = omega arith
onto_length (suc k) n after = either (n / 10 == 0) (digit_glyph false (n % 10) ∷ after) _ (omega arith) (omega (arith, onto_length k (n / 10) (digit_glyph false (n % 10) ∷ after)))
  where
    either : (b : Bool) (few many : List ℕ) → length few ≤ suc k + length after → length many ≤ suc k + length after → length (if b then few else many) ≤ suc k + length after
    either true few many h g = h
    either false few many h g = g

-- at most k + 1 digits below 10 ^ (k + 1): 20 of 64 bits, 19 of a figure
pub length-decimal : (k n : ℕ) → n < 10 ^ suc k → length (decimal n) ≤ suc k
unfolding digits
length-decimal k n h = go (ltb k 64) (ltb-true k 64) (ltb-false k 64)
  where
    go : (b : Bool) → (b ≡ true → k < 64) → (b ≡ false → 64 ≤ k) → length (decimal n) ≤ suc k
    go true few many = few_digits k n h (few refl)
    go false few many = let long = many refl in omega (arith, onto_length 64 n [], long)

pub length_more : (n : ℕ) → 10 ≤ n → n < 10 ^ 20 → length (decimal n) ≡ length (decimal (n / 10)) + 1
length_more n h l = ap length (decimal-more n h l) ∙ length-append (decimal (n / 10)) (digit (n % 10) ∷ [])

-- ---- each byte is a digit, and read as a number in base 10 they say n
abbrev pub Digits : List ℕ → Type 0
Digits [] = Unit {0}
Digits (d ∷ s) = (code "0" ≤ d) × (d ≤ code "9") × Digits s

unfoldable pub value : List ℕ → ℕ
value [] = 0
value (d ∷ s) = (d - code "0") * 10 ^ length s + value s

value-last : (s : List ℕ) (d : ℕ) → d < 10 → value (s ++ (digit d ∷ [])) ≡ value s * 10 + d
unfolding value
value-last [] d h = omega arith
value-last (b ∷ s) d h = rw (value-last s d h, length-append s (digit d ∷ []), pow-add 10 (length s) 1) (omega arith)

pub value_one : (d : ℕ) → d < 10 → value (digit d ∷ []) ≡ d
unfolding value
value_one d h = omega arith

pub digits_last : (s : List ℕ) (d : ℕ) → d < 10 → Digits s → Digits (s ++ (digit d ∷ []))
digits_last [] d h g = (omega arith, omega arith, tt)
digits_last (b ∷ s) d h g = (g.0, g.1, digits_last s d h g.2)

pub value-decimal : (n : ℕ) → n < 10 ^ 20 → value (decimal n) ≡ n
value-decimal n h =
    decimal_by_steps_wide (λ m ds. value ds ≡ m) value_one
    (λ m ds l e. value-last ds (m % 10) (mod-lt m (lit< tt)) ∙ rw e (div-add-mod' m 10)) n (omega arith)

pub digits_decimal : (n : ℕ) → n < 10 ^ 20 → Digits (decimal n)
digits_decimal n h =
    decimal_by_steps_wide (λ m ds. Digits ds) (λ m l. digits_last [] m l tt) (λ m ds l g. digits_last ds (m % 10) (mod-lt m (lit< tt)) g) n (omega arith)
