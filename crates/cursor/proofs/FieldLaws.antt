-- The fields that a reader reads, as numbers.
-- Assumes nothing.
use Rattle.std.proofs.Common.{ℕ, zero, suc, ap, map, drop, ◌/◌, ◌<◌, List, [], ◌∷◌, ◌≡◌, ◌≤◌, ◌+◌, ◌*◌, length, take, refl, ◌∙◌, arith, slice_index, length-take-le}
use Rattle.std.specs.Int.{w16, w32, w64, from_be_bytes}
use Rattle.std.proofs.lemmas.List.{take_all, take-take, drop-take}
use Rattle.std.proofs.Math.Nat.{mul-div_cancel}
use Rattle.std.specs.Simd.{first_chunks}
use Rattle.wire.specs.Bytes.{number, numbers}
use Rattle.wire.proofs.EndianLaws.{from_be_is_number}

pub field_8 : (s : List ℕ) → 1 ≤ length s → slice_index s 0 ≡ number (take 1 s)
unfolding number
field_8 [] h = absurd (omega arith)
field_8 (b ∷ s) h = omega arith

pub field_16 : (s : List ℕ) → 2 ≤ length s → from_be_bytes w16 (take 2 s) ≡ number (take 2 s)
field_16 s h = from_be_is_number w16 (take 2 s) (length-take-le 2 s h)

pub field_32 : (s : List ℕ) → 4 ≤ length s → from_be_bytes w32 (take 4 s) ≡ number (take 4 s)
field_32 s h = from_be_is_number w32 (take 4 s) (length-take-le 4 s h)

pub field_64 : (s : List ℕ) → 8 ≤ length s → from_be_bytes w64 (take 8 s) ≡ number (take 8 s)
field_64 s h = from_be_is_number w64 (take 8 s) (length-take-le 8 s h)

-- fields of one width, from their chunks
chunk_numbers : (w k : ℕ) (s : List ℕ) → map number (first_chunks w k s) ≡ numbers k w s
unfolding numbers
chunk_numbers w zero s = refl
chunk_numbers w (suc k) s = ap (λ (l : List ℕ). number (take w s) ∷ l) (chunk_numbers w k (drop w s))

numbers_taken : (k w : ℕ) (s : List ℕ) → numbers k w (take (k * w) s) ≡ numbers k w s
unfolding numbers
numbers_taken zero w s = refl
numbers_taken (suc k) w s =
    let e : suc k * w ≡ w + k * w = omega arith in
    rw (e, take-take w (w + k * w) s (omega arith), drop-take w (k * w) s, numbers_taken k w (drop w s))

pub fields_of : (k w : ℕ) (s bytes : List ℕ) (chunks found : List (List ℕ)) → 0 < w → k * w ≤ length s → bytes ≡ take (k * w) s → chunks ≡ first_chunks w (length bytes / w) bytes → length chunks ≡ length bytes / w
    → found ≡ take k chunks → map number found ≡ numbers k w s
fields_of k w s bytes chunks found wide room taken front count first =
    let long : length bytes ≡ k * w = rw taken (length-take-le (k * w) s room) in
    let many : length bytes / w ≡ k = rw (long, mul-div_cancel k wide) in
    let all : take k chunks ≡ chunks = take_all k chunks (omega (arith, count, many)) in
    ap (map number) (first ∙ all ∙ rw many at front) ∙ chunk_numbers w k bytes ∙ ap (numbers k w) taken ∙ numbers_taken k w s
