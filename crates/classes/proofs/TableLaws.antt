-- Tables by row and column, filled entry by entry.
-- Assumes nothing.
use Rattle.std.proofs.Common.{ℕ, List, length, ◌+◌, ◌*◌, ◌/◌, ◌%◌, ◌≡◌, ◌≢◌, ◌<◌, ◌≤◌, get_or, set, sym, ◌∙◌, arith, below_more}
use Rattle.std.proofs.lemmas.List.{same_lists, get_or_default, get_or-set_same, get_or-set_other}
use Rattle.std.proofs.Math.ListN.{length-set}
use Rattle.arithmetic.proofs.SumLaws.{length-listed, get_or-listed}
use Rattle.arithmetic.proofs.TableLaws.{places-le}
use Rattle.classes.specs.Matrix.{table_of}
use Rattle.classes.specs.Tables.{IsTableBy}

-- the first n places hold results for their rows and columns
pub record FilledBelow (Result : (row column number : ℕ) → Type 0) (table : List ℕ) (n : ℕ) : Type 0 where
  pub long : length table ≡ 144
  pub each : (k : ℕ) → k < n → Result (k / 12) (k % 12) (get_or table k 0)

-- one place more
pub FilledBelow-set : (Result : (row column number : ℕ) → Type 0) (table : List ℕ) (i j x n : ℕ) → i < 12 → j < 12 → FilledBelow Result table (12 * i + j) → Result i j x → n ≡ 12 * i + j + 1 → FilledBelow Result (set table (12 * i + j) x) n
FilledBelow-set Result table i j x n row column filled given next =
    let inside : 12 * i + j < length table = omega (arith, filled.long) in
    let in_row : (12 * i + j) / 12 ≡ i = omega arith in
    let in_column : (12 * i + j) % 12 ≡ j = omega arith in
    let here : Result ((12 * i + j) / 12) ((12 * i + j) % 12) (get_or (set table (12 * i + j) x) (12 * i + j) 0) = rw (in_row, in_column, get_or-set_same table (12 * i + j) x 0 inside) given in
    let below : (k : ℕ) → k < 12 * i + j → Result (k / 12) (k % 12) (get_or (set table (12 * i + j) x) k 0) =
    λ k h. let other : k ≢ 12 * i + j = omega arith in rw (get_or-set_other table (12 * i + j) k x 0 other) (filled.each k h) in
    let all = below_more (λ k. Result (k / 12) (k % 12) (get_or (set table (12 * i + j) x) k 0)) (12 * i + j) below here in
    record { long = length-set table _ _ ∙ filled.long; each = λ k h. all k (omega arith) }

-- a table of results that are all f i j
pub table_of-is : {Result : (row column number : ℕ) → Type 0} (f : ℕ → ℕ → ℕ) (table : List ℕ) → ((i j x : ℕ) → i < 12 → j < 12 → Result i j x → x ≡ f i j) → IsTableBy Result table → table ≡ table_of f
table_of-is f table same filled =
    same_lists table (table_of f) (filled.long ∙ sym (length-listed 144 (λ k. f (k / 12) (k % 12)))) (λ k d h.
    let inside : k < 144 = omega (arith, filled.long) in
    get_or_default table k d 0 h ∙ same (k / 12) (k % 12) _ (omega arith) (omega arith) (filled.each k inside) ∙ sym (get_or-listed 144 (λ k. f (k / 12) (k % 12)) k d inside))

-- a table of results that are all within a bound
pub table_of_small : {Result : (row column number : ℕ) → Type 0} (most : ℕ) (table : List ℕ) → ((i j x : ℕ) → i < 12 → j < 12 → Result i j x → x ≤ most) → IsTableBy Result table → (k : ℕ) → get_or table k 0 ≤ most
table_of_small most table small filled =
    places-le most table (λ k h. let inside : k < 144 = omega (arith, filled.long) in small (k / 12) (k % 12) _ (omega arith) (omega arith) (filled.each k inside))
