-- MP: what is accepted is exactly the encoding of a matrix in range.
-- Assumes nothing.
use Rattle.std.proofs.Common.{ℕ, ◌+◌, ◌*◌, ◌/◌, ◌%◌, ◌^◌, ◌<◌, ◌≡◌, refl, List, append-nil, arith, lit<, length, get_or}
use Rattle.arithmetic.proofs.SumLaws.{term_le}
use Rattle.classes.specs.Classes.{classes}
use Rattle.classes.specs.Matrix.{entry, RowsSum}
use Rattle.wire.specs.Bytes.{joined}
use Rattle.dossier.specs.Records.{MatrixInRange, matrix_bytes}
use Rattle.dossier.specs.JudgingRecords.{matrix}
use Rattle.wire.proofs.BytesLaws.{Below, below-entries, length-each}
use Rattle.dossier.proofs.Exact.{Exact, done, begin_then, fields_then}
use Rattle.dossier.proofs.ExactParts.{Any}
use Rattle.dossier.proofs.EachLaws.{equal_tests, each_then}

-- no probability is more than its row's sum
rows-below : (xs : List ℕ) → length xs ≡ 144 → RowsSum xs → Below (256 ^ 4) xs
rows-below xs n h = below-entries (256 ^ 4) xs (λ k l. small k (k / 12) (k % 12) (omega arith) (omega arith) (omega arith))
  where
    small : (k i j : ℕ) → k ≡ 12 * i + j → i < 12 → j < 12 → get_or xs k 0 < 256 ^ 4
    small k i j e hi hj = let t = term_le classes (entry xs i) j hj in let r = h i hi in rw e (omega arith)

pub matrix_exact : Exact 0 Any matrix matrix_bytes (λ (xs t : List ℕ). MatrixInRange xs)
unfolding matrix matrix_bytes joined
matrix_exact =
    begin_then _ _ (lit< tt) (λ xs t c p. simp (append-nil, length-each, p.count))
    (fields_then _ _ (λ (xs : List ℕ). xs) (λ xs t c p. (p.count, rows-below xs p.count p.rows)) (λ xs n l.
    each_then (equal_tests _ _ _) _ (λ ys t c p. rw (← c.1) p.rows) (λ k.
    done xs (tt, refl) (λ t. record { count = n; rows = k }) (λ ys t c p. c.1))))
