-- Document 01, "Calls and sheet": figures of 64 bits, big-endian, two's complement. `written-figure`, in proofs/SignedLaws, reads them back.
-- To be believed. Assumes nothing.
use Rattle.std.specs.Prelude.{ℕ, ◌+◌, ◌-◌, ◌*◌, ◌^◌, cond, List, [], ◌∷◌, ◌++◌, ltb, ℤ, pos, negsuc, length, drop}
use Rattle.wire.specs.Bytes.{bytes, field_at}

-- two's complement in 64 bits (negsuc n is -(n + 1))
unfoldable pub twos_complement : ℤ → ℕ
twos_complement (pos n) = n
twos_complement (negsuc n) = 2 ^ 64 - (n + 1)

-- the eight bytes of a figure, and those of a list of figures
unfoldable pub figure_bytes : ℤ → List ℕ
figure_bytes z = bytes 8 (twos_complement z)

unfoldable pub figures_bytes : List ℤ → List ℕ
figures_bytes [] = []
figures_bytes (z ∷ rest) = figure_bytes z ++ figures_bytes rest

-- a buffer with the figures from its start on; bytes beyond keep their content
unfoldable pub written : List ℤ → List ℕ → List ℕ
written figures buffer = figures_bytes figures ++ drop (8 * length figures) buffer

-- what 64 bits say
unfoldable pub signed : ℕ → ℤ
signed n = cond (ltb n (2 ^ 63)) (pos n) (negsuc (2 ^ 64 - 1 - n))

-- the figure that the eight bytes from at say
unfoldable pub figure_at : List ℕ → ℕ → ℤ
figure_at buffer at = signed (field_at 8 buffer at)
