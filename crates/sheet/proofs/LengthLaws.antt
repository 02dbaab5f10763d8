-- The figures of a sheet, its lines one part further, and how long a sheet is at most.
-- Assumes nothing.
use Prim.Native.Nat.{ℕ, zero, suc, ◌+◌, ◌-◌, ◌*◌, ◌/◌, ◌^◌, ◌≤◌, ◌<◌}
use mathlib.Core.Path.{◌≡◌, refl}
use mathlib.Core.Bool.{Bool, true, false}
use mathlib.Core.List.{List, [], ◌++◌}
use native.Mathlib.Omega.{arith}
use lib.Dec.{ltb}
use lib.ListN.{length, length-append}
use borrow.Author.Tests.{ltb-true, ltb-false, lt-ltb, le-ltb}
use Rattle.std.specs.Fmt.{decimal, signed_decimal}
use Rattle.wire.specs.Bytes.{field_at}
use Rattle.wire.specs.Signed.{signed, figure_at}
use Rattle.sheet.specs.Ascii.{ascii}
use Rattle.sheet.specs.CallLine.{call_line, numbers_line}
use Rattle.sheet.specs.Sheet.{spaced, year_line, year_lines, named, total_line, header, sheet_of, refusal_of}
use Rattle.sheet.proofs.DecimalLaws.{length-decimal}

-- ---- a figure
pub figure-above : (n : ℕ) → n < 2 ^ 63 → signed_decimal (signed n) ≡ decimal n
unfolding signed
figure-above n h = rw (lt-ltb n (2 ^ 63) h)

pub figure-below : (n : ℕ) → 2 ^ 63 ≤ n → signed_decimal (signed n) ≡ ascii "-" ++ decimal (2 ^ 64 - 1 - n + 1)
unfolding signed
figure-below n h =
    let e : 2 ^ 64 - 1 - n + 1 ≡ suc (2 ^ 64 - 1 - n) = omega arith in
    rw (le-ltb n (2 ^ 63) h, e)

pub length-figure_by : (b : Bool) (n : ℕ) → ltb n (2 ^ 63) ≡ b → length (signed_decimal (signed n)) ≤ 20
length-figure_by true n e =
    let h = ltb-true n (2 ^ 63) e in
    rw (figure-above n h) (omega (arith, length-decimal 18 n (omega arith)))
length-figure_by false n e =
    let h = ltb-false n (2 ^ 63) e in
    rw (figure-below n h) (omega (arith, length-decimal 18 (2 ^ 64 - 1 - n + 1) (omega arith)))

pub length-figure : (n : ℕ) → length (signed_decimal (signed n)) ≤ 20
length-figure n = length-figure_by (ltb n (2 ^ 63)) n refl

-- ---- the lines, one part further
pub spaced-none : (result : List ℕ) (at : ℕ) → spaced 0 result at ≡ []
unfolding spaced
spaced-none result at = refl

pub spaced-more : (k : ℕ) (result : List ℕ) (at : ℕ) → 0 < k
    → spaced k result at ≡ ascii " " ++ (signed_decimal (signed (field_at 8 result at)) ++ spaced (k - 1) result (at + 8))
unfolding spaced figure_at
spaced-more zero result at h = let z : ⊥ = omega arith in absurd z
spaced-more (suc k) result at h =
    let e : suc k - 1 ≡ k = omega arith in
    rw e

pub lines_none : (year : ℕ) (result : List ℕ) (at : ℕ) → year_lines 0 year result at ≡ []
unfolding year_lines
lines_none year result at = refl

pub lines_more : (n year : ℕ) (result : List ℕ) (at : ℕ) → 0 < n
    → year_lines n year result at ≡ year_line year result at ++ year_lines (n - 1) (year + 1) result (at + 64)
unfolding year_lines
lines_more zero year result at h = let z : ⊥ = omega arith in absurd z
lines_more (suc n) year result at h =
    let e : suc n - 1 ≡ n = omega arith in
    let f : year + 1 ≡ suc year = omega arith in
    rw (e, f)

-- ---- how long
pub length-spaced : (k : ℕ) (result : List ℕ) (at : ℕ) → length (spaced k result at) ≤ 21 * k
unfolding spaced figure_at
length-spaced zero result at = omega arith
length-spaced (suc k) result at =
    simp length-append (omega (arith, length-figure (field_at 8 result at), length-spaced k result (at + 8)))

pub length_line : (year : ℕ) (result : List ℕ) (at : ℕ) → year < 10 ^ 20 → length (year_line year result at) ≤ 189
unfolding year_line
length_line year result at h =
    simp length-append (omega (arith, length-decimal 19 year h, length-spaced 8 result at))

pub length_lines : (n year : ℕ) (result : List ℕ) (at : ℕ) → year + n < 10 ^ 20 → length (year_lines n year result at) ≤ 189 * n
unfolding year_lines
length_lines zero year result at h = omega arith
length_lines (suc n) year result at h =
    rw length-append (omega (arith, length_line year result at (omega arith), length_lines n (suc year) result (at + 64) (omega arith)))

length-total : (result : List ℕ) (at : ℕ) → length (total_line result at) ≤ 105
unfolding total_line named
length-total result at =
    simp length-append (omega (arith, length-spaced 1 result at, length-spaced 1 result (at + 8), length-spaced 2 result (at + 16)))

pub length_sheet : (first n : ℕ) (result : List ℕ) → first < 65536 → n ≤ 20 → length (sheet_of first n result) ≤ 4096
unfolding sheet_of header
length_sheet first n result h g =
    simp length-append (omega (arith, length_lines n first result 0 (omega arith), length-total result (64 * n)))

pub length_refusal : (n : ℕ) → n < 256 → length (refusal_of n) ≤ 4096
unfolding refusal_of
length_refusal n h = simp length-append (omega (arith, length-decimal 2 n (omega arith)))

pub length_call : (word : List ℕ) (n : ℕ) (figures : List ℕ) → length word ≤ 100 → n < 256 → length figures ≤ 1472 → length (call_line word n figures) ≤ 4096
unfolding call_line numbers_line
length_call word n figures h g f =
    simp length-append (omega (arith, length-decimal 2 n (omega arith), length-spaced (length figures / 8) figures 0))
