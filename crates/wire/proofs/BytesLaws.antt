-- Big-endian numbers and their bytes: each determines the other.
-- Assumes nothing.
use Rattle.std.proofs.Common.{ℕ, zero, suc, ◌+◌, ◌*◌, ◌^◌, ◌/◌, ◌%◌, ◌<◌, ◌≤◌, ◌≡◌, refl, ◌∙◌, ap, sym, List, [], ◌∷◌, ◌++◌, append_assoc, pow-suc, add-zero, zero-mul}
use Rattle.std.proofs.Common.{mul_comm, mul_assoc, mul-le-mul_right, mod-lt, mod-eq_of_lt, div-lt_iff_lt-mul, div-add-mod', arith, lit<, length, take, drop, get_or}
use Rattle.std.proofs.Common.{length-append, length-drop, take-append-drop, get_or-drop, get_or-append-add, length-take-le, take_at, drop_at, drop-drop}
use native.Mathlib.Nat.{div-eq_of_lt, mul-add-div_right, mul-add-mod_self_right}
use Rattle.wire.specs.Bytes.{Bytes, number, bytes, numbers, bytes_of_each, total, field_at}

-- ---- bytes
pub bytes_tail : (b : ℕ) (s : List ℕ) → Bytes (b ∷ s) → Bytes s
bytes_tail b s h k = h (suc k)

pub bytes_drop : (n : ℕ) (s : List ℕ) → Bytes s → Bytes (drop n s)
bytes_drop n s h k = rw get_or-drop (h (n + k))

pub bytes_take : (n : ℕ) (s : List ℕ) → Bytes s → Bytes (take n s)
bytes_take zero s h k = lit< tt
bytes_take (suc n) [] h k = lit< tt
bytes_take (suc n) (b ∷ s) h zero = h 0
bytes_take (suc n) (b ∷ s) h (suc k) = bytes_take n s (bytes_tail b s h) k

pub bytes_after : (s t : List ℕ) → Bytes (s ++ t) → Bytes t
bytes_after s t h k = rw get_or-append-add at (h (length s + k))

pub bytes-before : (s t : List ℕ) → Bytes (s ++ t) → Bytes s
bytes-before [] t h k = lit< tt
bytes-before (b ∷ s) t h zero = h 0
bytes-before (b ∷ s) t h (suc k) = bytes-before s t (bytes_tail b (s ++ t) h) k

pub power : (w : ℕ) → 0 < 256 ^ w
power zero = lit< tt
power (suc w) = let ih = power w in rw pow-suc (omega arith)

pub length-bytes : (w n : ℕ) → length (bytes w n) ≡ w
unfolding bytes
length-bytes zero n = refl
length-bytes (suc w) n = ap suc (length-bytes w n)

-- ---- one number
pub number_lt : (s : List ℕ) → Bytes s → number s < 256 ^ length s
unfolding number
number_lt [] h = lit< tt
number_lt (b ∷ s) h =
    let ih = number_lt s (bytes_tail b s h) in
    let m : b * 256 ^ length s ≤ 255 * 256 ^ length s = mul-le-mul_right (256 ^ length s) (omega (arith, h 0)) in
    rw pow-suc (omega arith)

-- the last w bytes are those of the remainder by 256 ^ w
pub bytes_shift : (w k n : ℕ) → bytes w (k * 256 ^ w + n) ≡ bytes w n
unfolding bytes
bytes_shift zero k n = refl
bytes_shift (suc w) k n = grind (arith, mul_comm, mul_assoc, mul-add-div_right, power, mul-add-mod_self_right, bytes_shift w (k * 256) n)

pub number-bytes : (w n : ℕ) → n < 256 ^ w → number (bytes w n) ≡ n
unfolding number bytes
number-bytes zero n h = omega arith
number-bytes (suc w) n h =
    grind (arith, mod-eq_of_lt, div-lt_iff_lt-mul, power, div-add-mod', bytes_shift, length-bytes, number-bytes w (n % 256 ^ w) (mod-lt n (power w)))

pub bytes-number : (s : List ℕ) → Bytes s → bytes (length s) (number s) ≡ s
unfolding number bytes
bytes-number [] h = refl
bytes-number (b ∷ s) h =
    let l = number_lt s (bytes_tail b s h) in
    let d : (b * 256 ^ length s + number s) / 256 ^ length s ≡ b = mul-add-div_right (power (length s)) b (number s) ∙ rw (div-eq_of_lt l) (add-zero b) in
    rw (d, mod-eq_of_lt (h 0), bytes_shift (length s) b (number s), bytes-number s (bytes_tail b s h))

-- a list of bytes is the bytes of its first field, then the rest
pub split : (w : ℕ) (s : List ℕ) → Bytes s → w ≤ length s → s ≡ bytes w (number (take w s)) ++ drop w s
split w s b h =
    let e : bytes w (number (take w s)) ≡ take w s = rw (length-take-le w s h) at (bytes-number (take w s) (bytes_take w s b)) in
    rw e (sym (take-append-drop w s))

pub number-take-lt : (w : ℕ) (s : List ℕ) → Bytes s → w ≤ length s → number (take w s) < 256 ^ w
number-take-lt w s b h = rw (length-take-le w s h) at (number_lt (take w s) (bytes_take w s b))

pub take-bytes : (w n : ℕ) (t : List ℕ) → n < 256 ^ w → number (take w (bytes w n ++ t)) ≡ n
take-bytes w n t h = rw (take_at (bytes w n) t w (length-bytes w n)) (number-bytes w n h)

pub drop-bytes : (w n : ℕ) (t : List ℕ) → drop w (bytes w n ++ t) ≡ t
drop-bytes w n t = drop_at (bytes w n) t w (length-bytes w n)

-- ---- lists of numbers, all below a bound
abbrev pub Below : ℕ → List ℕ → Type 0
Below m [] = Unit {0}
Below m (x ∷ xs) = (x < m) × Below m xs

pub below-entries : (m : ℕ) (xs : List ℕ) → ((k : ℕ) → k < length xs → get_or xs k 0 < m) → Below m xs
below-entries m [] h = tt
below-entries m (x ∷ xs) h = (h 0 (omega arith), below-entries m xs (λ k l. h (suc k) (omega arith)))

pub below_total : (m : ℕ) (xs : List ℕ) → total xs < m → Below m xs
unfolding total
below_total m [] h = tt
below_total m (x ∷ xs) h = (omega arith, below_total m xs (omega arith))

pub length-each : (w : ℕ) (xs : List ℕ) → length (bytes_of_each w xs) ≡ length xs * w
unfolding bytes_of_each
length-each w [] = simp zero-mul
length-each w (x ∷ xs) = rw (length-append, length-bytes, length-each w xs) (omega arith)

pub length-numbers : (k w : ℕ) (s : List ℕ) → length (numbers k w s) ≡ k
unfolding numbers
length-numbers zero w s = refl
length-numbers (suc k) w s = ap suc (length-numbers k w (drop w s))

-- the number at place j
pub get_or-numbers : (k w : ℕ) (u : List ℕ) (j : ℕ) → j < k → get_or (numbers k w u) j 0 ≡ field_at w u (j * w)
unfolding numbers field_at
get_or-numbers zero w u j h = absurd (omega arith)
get_or-numbers (suc k) w u zero h = rw zero-mul
get_or-numbers (suc k) w u (suc j) h = grind (arith, drop-drop, get_or-numbers k w (drop w u) j (omega arith))

pub numbers-each : (w : ℕ) (xs t : List ℕ) → Below (256 ^ w) xs → numbers (length xs) w (bytes_of_each w xs ++ t) ≡ xs
unfolding numbers bytes_of_each
numbers-each w [] t h = refl
numbers-each w (x ∷ xs) t h = grind (arith, append_assoc, take-bytes, drop-bytes, numbers-each w xs t h.1)

pub split_each : (k w : ℕ) (s : List ℕ) → Bytes s → k * w ≤ length s → s ≡ bytes_of_each w (numbers k w s) ++ drop (k * w) s
unfolding numbers bytes_of_each
split_each zero w s b h = rw zero-mul
split_each (suc k) w s b h =
    let e : suc k * w ≡ w + k * w = omega arith in
    let x = bytes w (number (take w s)) in
    let ih = rw drop-drop at (split_each k w (drop w s) (bytes_drop w s b) (simp length-drop (omega arith))) in
    split w s b (omega arith) ∙ ap (λ (l : List ℕ). x ++ l) ih ∙ rw (append_assoc, e)

pub numbers-below : (k w : ℕ) (s : List ℕ) → Bytes s → k * w ≤ length s → Below (256 ^ w) (numbers k w s)
unfolding numbers
numbers-below zero w s b h = tt
numbers-below (suc k) w s b h =
    (number-take-lt w s b (omega arith), numbers-below k w (drop w s) (bytes_drop w s b) (simp length-drop (omega arith)))
