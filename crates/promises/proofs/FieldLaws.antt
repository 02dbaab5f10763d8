-- A field of v + w bytes is one of v bytes and one of w: the one law of every width.
-- Assumes nothing.
use Rattle.std.proofs.Common.{◌≡◌, ℕ, ◌+◌, ◌*◌, ◌^◌, ◌≤◌, List, [], ◌∷◌, ◌++◌, zero-add, length, take, length-append, length-drop, length-take-le, take-add, drop, drop-drop, pow-add, arith}
use Rattle.wire.specs.Bytes.{number, field_at}

number_append : (s t : List ℕ) → number (s ++ t) ≡ number s * 256 ^ length t + number t
unfolding number
number_append [] t = omega arith
number_append (b ∷ s) t = rw (length-append s t, pow-add 256 (length s) (length t), number_append s t) (omega arith)

pub field-joined : (v w : ℕ) (s : List ℕ) (at : ℕ) → at + (v + w) ≤ length s → field_at (v + w) s at ≡ field_at v s at * 256 ^ w + field_at w s (at + v)
unfolding field_at
field-joined v w s at h =
    let l : length (take w (drop (at + v) s)) ≡ w = length-take-le w (drop (at + v) s) (simp length-drop (omega arith)) in
    rw (take-add v w (drop at s), drop-drop, number_append, l)

-- of the bytes that are left
pub number-joined : (v w : ℕ) (s : List ℕ) → v + w ≤ length s → number (take (v + w) s) ≡ number (take v s) * 256 ^ w + number (take w (drop v s))
unfolding field_at
number-joined v w s h = rw zero-add at (field-joined v w s 0 (omega arith))

-- the same with the place of the second part named
pub field_parts : (v w : ℕ) (s : List ℕ) (at next : ℕ) → at + v ≡ next → at + (v + w) ≤ length s → field_at (v + w) s at ≡ field_at v s at * 256 ^ w + field_at w s next
field_parts v w s at next e h = rw (← e) (field-joined v w s at h)
