-- A table filled in place, whatever its entries f i j: entry by entry of a row, and row by row.
-- Assumes nothing.
use mathlib.Core.Path.{◌≡◌, ◌∙◌, sym}
use mathlib.Core.List.{List}
use Prim.Native.Nat.{ℕ, ◌+◌, ◌*◌, ◌/◌, ◌%◌}
use native.Mathlib.Omega.{arith}
use lib.ListN.{length, set}
use lib.Seq.{sets}
use Rattle.arithmetic.specs.Sum.{listed}
use Rattle.arithmetic.proofs.SumLaws.{length-listed, listed_cong}
use Rattle.arithmetic.proofs.StoreLaws.{entries-stored, entry-stored, all-stored}
use Rattle.classes.specs.Matrix.{table_of}

-- a table with the numbers f j as its row i
abbrev pub with_row : List ℕ → ℕ → (ℕ → ℕ) → List ℕ
with_row table i f = sets table (12 * i) (listed 12 f)

-- the table l with the first j entries of row i, or with the first i rows
abbrev pub row_to : ℕ → (ℕ → ℕ → ℕ) → List ℕ → ℕ → List ℕ
row_to j f l i = sets l (12 * i) (listed j (f i))

abbrev pub rows_to : ℕ → (ℕ → ℕ → ℕ) → List ℕ → List ℕ
rows_to i f l = sets l 0 (listed (12 * i) (λ k. f (k / 12) (k % 12)))

module _ (f : ℕ → ℕ → ℕ) (l : List ℕ) where
  pub next-entry : (m : List ℕ) (i j x : ℕ) → m ≡ row_to j f l i → x ≡ f i j → set m (12 * i + j) x ≡ row_to (j + 1) f l i
  next-entry m i j x p e = entry-stored l m (12 * i) j (f i) x p e

  pub row_at : (i : ℕ) → listed 12 (λ j. f ((12 * i + j) / 12) ((12 * i + j) % 12)) ≡ listed 12 (f i)
  row_at i = listed_cong 12 _ _ (λ j h. let row : (12 * i + j) / 12 ≡ i = omega arith in let column : (12 * i + j) % 12 ≡ j = omega arith in rw (row, column))

  pub next_row : (m r : List ℕ) (i : ℕ) → m ≡ rows_to i f l → r ≡ with_row m i (f i) → r ≡ rows_to (i + 1) f l
  next_row m r i p q =
      let e : 12 * (i + 1) ≡ 12 * i + 12 = omega arith in
      q ∙ rw (e, ← row_at i) (entries-stored l m 0 (12 * i) (12 * i) 12 (λ k. f (k / 12) (k % 12)) p (omega arith))

  pub all-rows : (m : List ℕ) → length l ≡ 144 → m ≡ rows_to 12 f l → m ≡ table_of f
  all-rows m long p = p ∙ all-stored l (table_of f) (long ∙ sym (length-listed 144 (λ k. f (k / 12) (k % 12))))
