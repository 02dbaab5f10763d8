-- MP at a place, from the rows that are read there; MP under the options.
-- Assumes nothing.
use Prim.Native.Nat.{ℕ, suc, ◌+◌, ◌*◌, ◌<◌}
use mathlib.Core.Path.{◌≡◌, ◌∙◌, sym}
use mathlib.Core.List.{List, ◌++◌}
use native.Mathlib.Nat.{add_assoc}
use native.Mathlib.Omega.{arith}
use borrow.Author.Tests.{eq-eqb, ne_eqb}
use lib.ListN.{length, drop}
use lib.Seq.{drop-drop, sets}
use Rattle.arithmetic.specs.Sum.{sum}
use Rattle.arithmetic.proofs.SumLaws.{sum_cong}
use Rattle.arithmetic.proofs.StoreLaws.{stored_next, all-stored}
use Rattle.classes.specs.Classes.{classes}
use Rattle.classes.specs.Matrix.{entry, million, option_one_matrix}
use Rattle.wire.specs.Bytes.{numbers, total, field_at}
use Rattle.wire.proofs.BytesLaws.{length-numbers, get_or-numbers}
use Rattle.wire.proofs.NumbersLaws.{numbers-add, total-entries}
use Rattle.dossier.specs.Marks.{mark_mp}
use Rattle.dossier.specs.Reader.{Judged, refused, accepted, Reader, followed, ◌>>=◌, ◌>>◌, give, if_any, begin, equal}
use Rattle.dossier.specs.JudgingRecords.{each, matrix, matrix_under}
use Rattle.dossier.proofs.ReaderLaws.{equal-yes}
use Rattle.dossier.proofs.EachLaws.{equal_tests, each_wrong}
use Rattle.cursor.proofs.AtLaws.{begun_says, begun-yes, fields-is}
use Rattle.dossier.specs.Records.{matrix_in_use}

-- the test of the i-th row of MP at a place
abbrev pub row_test : List ℕ → ℕ → ℕ → Reader (Unit {0})
row_test s at i = equal 5 (sum classes (entry (numbers 144 4 (drop (at + 2) s)) i)) million

-- the first i of them pass
abbrev pub RowsRight : List ℕ → ℕ → ℕ → Type 0
RowsRight s at i = each i (row_test s at) (drop (at + 578) s) ≡ accepted tt (drop (at + 578) s)

-- ---- a matrix stored row by row
pub next_row : (l m n s : List ℕ) (at i : ℕ) → m ≡ sets l 0 (numbers (12 * i) 4 (drop at s)) → n ≡ sets m (12 * i) (numbers 12 4 (drop (at + 48 * i) s))
    → n ≡ sets l 0 (numbers (12 * suc i) 4 (drop at s))
next_row l m n s at i p q =
    let xs = numbers (12 * i) 4 (drop at s) in
    let e : 12 * suc i ≡ 12 * i + 12 = omega arith in
    let f : at + 12 * i * 4 ≡ at + 48 * i = omega arith in
    let g : 12 * i ≡ 0 + length xs = omega (arith, length-numbers (12 * i) 4 (drop at s)) in
    let z : numbers (12 * suc i) 4 (drop at s) ≡ xs ++ numbers 12 4 (drop (at + 48 * i) s) = rw (e, numbers-add, drop-drop, f) in
    q ∙ stored_next l m 0 (12 * i) xs _ _ p g z

pub all-rows : (l m s : List ℕ) (at : ℕ) → length l ≡ 144 → m ≡ sets l 0 (numbers 144 4 (drop at s)) → m ≡ numbers 144 4 (drop at s)
all-rows l m s at e p = p ∙ all-stored l _ (e ∙ sym (length-numbers 144 4 (drop at s)))

-- row i of the 144 numbers is the twelve numbers that stand 48 × i bytes further
pub row_field : (i j : ℕ) (s : List ℕ) (at : ℕ) → field_at 4 (drop at s) ((12 * i + j) * 4) ≡ field_at 4 (drop (at + 48 * i) s) (j * 4)
unfolding field_at
row_field i j s at = let e : at + (12 * i + j) * 4 ≡ at + 48 * i + j * 4 = omega arith in simp drop-drop (rw e)

pub row_at : (i : ℕ) (s : List ℕ) (at : ℕ) → i < 12 → sum classes (entry (numbers 144 4 (drop at s)) i) ≡ total (numbers 12 4 (drop (at + 48 * i) s))
row_at i s at l =
    sum_cong classes _ _ (λ j h. get_or-numbers 144 4 (drop at s) (12 * i + j) (omega arith) ∙ row_field i j s at ∙ sym (get_or-numbers 12 4 (drop (at + 48 * i) s) j h))
    ∙ sym (rw length-numbers at (total-entries (numbers 12 4 (drop (at + 48 * i) s))))

module _ (s : List ℕ) (at r : ℕ) (h : begun_says s at r ≡ begin mark_mp 576 (drop at s)) where
  module _ (z : r ≡ 0) where
    abbrev read : List ℕ
    read = numbers 144 4 (drop (at + 2) s)

    matrix-at : matrix (drop at s) ≡ (each 12 (row_test s at) >> give read) (drop (at + 578) s)
    unfolding matrix
    matrix-at = rw (← begun-yes s at mark_mp 576 r h _ z) (simp (fields-is, add_assoc))

    module _ (i x : ℕ) (l : i < 12) (e : x ≡ total (numbers 12 4 (drop (at + 2 + 48 * i) s))) where
      pub row_wrong : (x ≡ million → ⊥) → refused 5 ≡ matrix (drop at s)
      unfolding followed
      row_wrong f = rw (matrix-at, each_wrong (equal_tests 5 (λ i. sum classes (entry read i)) (λ i. million)) 12 (drop (at + 578) s) i l (λ q. f (e ∙ sym (row_at i s (at + 2) l) ∙ q)))

      pub row-right : x ≡ million → RowsRight s at i → RowsRight s at (suc i)
      unfolding each followed
      row-right f p = rw p (equal-yes _ _ _ _ (row_at i s (at + 2) l ∙ sym e ∙ f))

    pub matrix-read : RowsRight s at 12 → accepted read (drop (at + 578) s) ≡ matrix (drop at s)
    unfolding followed give
    matrix-read p = rw (matrix-at, p)

-- ---- the matrix in use
unfoldable pub settled_matrix : ℕ → Reader (List ℕ)
settled_matrix option = do
  m ← matrix_under option
  give (matrix_in_use m)

pub option_two : (option : ℕ) (j : Judged (List ℕ)) (u : List ℕ) → option ≡ 2 → j ≡ matrix u → j ≡ settled_matrix option u
unfolding settled_matrix matrix_under if_any give followed
option_two option (accepted xs v) u e q = rw (eq-eqb option 2 e, ← q)
option_two option (refused n) u e q = rw (eq-eqb option 2 e, ← q)

pub option_one_lem : (option : ℕ) (xs u : List ℕ) → (option ≡ 2 → ⊥) → xs ≡ option_one_matrix → accepted xs u ≡ settled_matrix option u
unfolding settled_matrix matrix_under if_any give followed
option_one_lem option xs u f e = rw (ne_eqb option 2 f, e)
