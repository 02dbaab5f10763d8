-- std's numbers of a width, most significant byte first, are those of specs/Bytes.
-- Assumes nothing.
use Rattle.std.proofs.Common.{◌≡◌, ℕ, zero, suc, ◌+◌, ◌-◌, ◌*◌, ◌^◌, ◌/◌, ◌%◌, ◌≤◌, ◌<◌, List, [], ◌∷◌, length, take, drop, get_or, length-drop, drop-cons, refl, ap, ◌∙◌, arith, div-one}
use native.Mathlib.Nat.{sub-zero, suc-sub-suc}
use Rattle.std.proofs.lemmas.List.{length-take-le}
use Rattle.std.specs.Int.{Width, byte_len, byte_worth, bytes_high_first, sum_through, to_be_bytes, from_be_bytes}
use Rattle.wire.specs.Bytes.{number, bytes, field_at}

high_first : (w n : ℕ) → bytes_high_first w n ≡ bytes w n
unfolding bytes
high_first zero n = refl
high_first (suc zero) n = rw (div-one n) refl
high_first (suc (suc w)) n = ap (λ rest. n / 256 ^ suc w % 256 ∷ rest) (high_first (suc w) n)

-- the bytes of n
pub to_be_is_bytes : (w : Width) (n : ℕ) → to_be_bytes w n ≡ bytes (byte_len w) n
to_be_is_bytes w n = high_first (byte_len w) n

first_of_sum : (f : ℕ → ℕ) (k : ℕ) → sum_through f (suc k) ≡ f 0 + sum_through (λ i. f (suc i)) k
first_of_sum f zero = refl
first_of_sum f (suc k) = omega (arith, first_of_sum f k)

worths : (b : ℕ) (s : List ℕ) → sum_through (λ i. byte_worth (length s - i) (get_or (b ∷ s) i 0)) (length s) ≡ number (b ∷ s)
unfolding number
worths b [] = omega arith
worths b (c ∷ s) =
    first_of_sum (λ i. byte_worth (suc (length s) - i) (get_or (b ∷ c ∷ s) i 0)) (length s)
    ∙ simp (sub-zero, suc-sub-suc) (ap (λ rest. b * 256 ^ suc (length s) + rest) (worths c s))

-- the number that as many bytes say
pub from_be_is_number : (w : Width) (s : List ℕ) → length s ≡ byte_len w → from_be_bytes w s ≡ number s
from_be_is_number w [] e = rw (← e) (unfold number in refl)
from_be_is_number w (b ∷ s) e =
    let others : suc (length s) - 1 ≡ length s = omega arith in
    rw (← e, others) (worths b s)

-- the field that the bytes of a width from at say
pub field_from_be : (w : Width) (s : List ℕ) (at : ℕ) → at + byte_len w ≤ length s → from_be_bytes w (take (byte_len w) (drop at s)) ≡ field_at (byte_len w) s at
unfolding field_at
field_from_be w s at fits = from_be_is_number w (take (byte_len w) (drop at s)) (length-take-le (byte_len w) (drop at s) (simp length-drop (omega arith)))

pub field_one : (s : List ℕ) (at : ℕ) → at < length s → field_at 1 s at ≡ get_or s at 0
unfolding field_at number
field_one s at fits = rw (drop-cons s at 0 fits) (omega arith)
