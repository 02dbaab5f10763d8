-- Two's complement: that it is std's, and that the bytes of a figure say the figure.
-- Assumes nothing.
use Rattle.std.proofs.Common.{◌≡◌, ℕ, ◌+◌, ◌-◌, ◌*◌, ◌^◌, ◌≤◌, ◌<◌, List, [], ◌∷◌, ◌++◌, ℤ, pos, negsuc, length, take, get_or, length-append, length-drop, append_assoc, refl, ◌∙◌, ap, sym, arith}
use Rattle.std.specs.Int.Signed.{mag}
use Rattle.std.specs.Int.{w64, cast_unsigned, to_be_bytes}
use Rattle.std.proofs.Math.Seq.{length-sets, drop-append-add}
use Rattle.std.proofs.lemmas.List.{take_at, drop_at, drop-drop, take_more, length-take-le, append-nil}
use Rattle.std.proofs.lemmas.List.Edits.{sets, sets-eq}
use borrow.Rule.Slice.PartMut.{put_mid}
use Rattle.arithmetic.proofs.StoreLaws.{sets_append}
use Rattle.wire.specs.Bytes.{bytes, field_at}
use Rattle.wire.specs.Signed.{twos_complement, figure_bytes, figures_bytes, written, signed, figure_at}
use Rattle.wire.proofs.EndianLaws.{to_be_is_bytes}
use Rattle.wire.proofs.BytesLaws.{length-bytes, take-bytes}

pub twos_below : (z : ℤ) (n : ℕ) → z ≡ negsuc n → 18446744073709551615 - n ≡ twos_complement z
unfolding twos_complement
twos_below z n e = rw e (omega arith)

pub twos_above : (z : ℤ) (n : ℕ) → z ≡ pos n → n ≡ twos_complement z
unfolding twos_complement
twos_above z n e = rw e refl

twos_cast : (z : ℤ) → cast_unsigned w64 z ≡ twos_complement z
unfolding twos_complement
twos_cast z = grind arith

-- what std makes of a figure are its bytes
pub figure_to_be : (z : ℤ) → to_be_bytes w64 (cast_unsigned w64 z) ≡ figure_bytes z
unfolding figure_bytes
figure_to_be z = to_be_is_bytes w64 (cast_unsigned w64 z) ∙ ap (bytes 8) (twos_cast z)

twos_lt : (z : ℤ) → mag z < 2 ^ 63 → twos_complement z < 256 ^ 8
unfolding twos_complement
twos_lt z h = grind arith

signed_twos : (z : ℤ) → mag z < 2 ^ 63 → signed (twos_complement z) ≡ z
unfolding twos_complement signed
signed_twos z h = grind arith

pub length-figure : (z : ℤ) → length (figure_bytes z) ≡ 8
unfolding figure_bytes
length-figure z = length-bytes 8 (twos_complement z)

pub length-figures : (figures : List ℤ) → length (figures_bytes figures) ≡ 8 * length figures
unfolding figures_bytes
length-figures [] = refl
length-figures (z ∷ rest) = length-append (figure_bytes z) (figures_bytes rest) ∙ omega (arith, length-figure z, length-figures rest)

-- the figure after the bytes s is read back
pub figure_back : (s t : List ℕ) (z : ℤ) (at : ℕ) → length s ≡ at → mag z < 2 ^ 63 → figure_at (s ++ (figure_bytes z ++ t)) at ≡ z
unfolding figure_at field_at figure_bytes
figure_back s t z at e h = rw (drop_at s (bytes 8 (twos_complement z) ++ t) at e, take-bytes 8 (twos_complement z) t (twos_lt z h)) (signed_twos z h)

pub figures-append : (xs ys : List ℤ) → figures_bytes (xs ++ ys) ≡ figures_bytes xs ++ figures_bytes ys
unfolding figures_bytes
figures-append [] ys = refl
figures-append (x ∷ xs) ys = rw (figures-append xs ys) (sym (append_assoc (figure_bytes x) (figures_bytes xs) (figures_bytes ys)))

-- figures stored right after stored ones, and one figure
pub stored_more : (xs ys : List ℤ) (s : List ℕ) (at next : ℕ) → at + 8 * length xs ≡ next
    → sets (sets s at (figures_bytes xs)) next (figures_bytes ys) ≡ sets s at (figures_bytes (xs ++ ys))
stored_more xs ys s at next e = rw (figures-append xs ys) (sym (sets_append s at (figures_bytes xs) (figures_bytes ys) ∙ rw (length-figures xs, e)))

pub stored_one : (xs : List ℤ) (z : ℤ) (s : List ℕ) (at next : ℕ) → at + 8 * length xs ≡ next
    → sets (sets s at (figures_bytes xs)) next (figure_bytes z) ≡ sets s at (figures_bytes (xs ++ (z ∷ [])))
unfolding figures_bytes
stored_one xs z s at next e = rw (append-nil (figure_bytes z)) at (stored_more xs (z ∷ []) s at next e)

-- bytes put in the middle are stored there
put_is_stored : (s bytes : List ℕ) (at n : ℕ) → length bytes ≡ n → at + n ≤ length s → put_mid at (at + n - at) s bytes ≡ sets s at bytes
put_is_stored s bytes at n e fits = grind (arith, drop-drop, sets-eq, append_assoc)

-- the figure at place k is stored after those before it
pub stored_next : (figures : List ℤ) (k : ℕ) (s : List ℕ) (at : ℕ) → k < length figures → at + 8 * k + 8 ≤ length s
    → put_mid (at + 8 * k) (at + 8 * k + 8 - (at + 8 * k)) (sets s at (figures_bytes (take k figures))) (figure_bytes (get_or figures k (pos 0)))
    ≡ sets s at (figures_bytes (take (k + 1) figures))
stored_next figures k s at h fits = grind (arith, length-take-le, length-sets, put_is_stored, length-figure, take_more, stored_one)

-- the figure z that stands after the figures xs in a buffer
pub written-figure : (xs : List ℤ) (z : ℤ) (ys : List ℤ) (buffer : List ℕ) (at : ℕ) → 8 * length xs ≡ at → mag z < 2 ^ 63 → figure_at (written (xs ++ (z ∷ ys)) buffer) at ≡ z
unfolding written figures_bytes
written-figure xs z ys buffer at e h = grind (arith, figures-append, append_assoc, figure_back, length-figures)

-- more figures stored right after the written ones are written too
pub written-more : (xs ys : List ℤ) (buffer : List ℕ) (at : ℕ) → 8 * length xs ≡ at → at + 8 * length ys ≤ length buffer
    → sets (written xs buffer) at (figures_bytes ys) ≡ written (xs ++ ys) buffer
unfolding written
written-more xs ys buffer at e h =
    grind (arith, length-figures, length-append {A = ℕ}, length-drop {A = ℕ}, drop-append-add, sets-eq, take_at, drop-drop, figures-append, append_assoc)

-- nothing is written yet
pub written_none : (buffer : List ℕ) → written [] buffer ≡ buffer
unfolding written figures_bytes
written_none buffer = refl
