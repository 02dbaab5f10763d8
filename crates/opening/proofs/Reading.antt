-- A table of numbers that are read and stored one after the other.
-- Assumes nothing.
use Rattle.std.proofs.Common.{◌≡◌, ◌≤◌, ◌<◌, ◌+◌, ◌*◌, ℕ, List, length, take, drop, get_or, refl, ◌∙◌, sym, ap, arith, drop-drop, zero-mul, add-zero, length-drop}
use Rattle.std.proofs.Math.ListN.{set, length-set}
use Rattle.std.proofs.Math.Seq.{take_all}
use Rattle.std.proofs.lemmas.List.{take_more_set}
use Rattle.wire.specs.Bytes.{number, numbers, total, field_at}
use Rattle.wire.proofs.BytesLaws.{get_or-numbers}
use Rattle.wire.proofs.NumbersLaws.{numbers-add, total-append}

-- of n numbers of w bytes each, the first i are read and stored, and these bytes are left
pub record Read (n w : ℕ) (bytes xs : List ℕ) (i : ℕ) (rest : List ℕ) : Type 0 where
  pub stored : take i xs ≡ numbers i w bytes
  pub left : rest ≡ drop (i * w) bytes
  pub count : length xs ≡ n
  pub room : n * w ≤ i * w + length rest

module _ (n w : ℕ) (bytes xs : List ℕ) where
  pub none-read : length xs ≡ n → n * w ≤ length bytes → Read n w bytes xs 0 bytes
  unfolding numbers
  none-read e h = record { stored = refl; left = rw zero-mul; count = e; room = omega arith }

  module _ (i : ℕ) (rest : List ℕ) (so_far : Read n w bytes xs i rest) where
    -- the number that stands next
    pub next-is : i < n → number (take w rest) ≡ get_or (numbers n w bytes) i 0
    unfolding field_at
    next-is h = rw so_far.left (sym (get_or-numbers n w bytes i h))

    pub next-total : total (numbers (i + 1) w bytes) ≡ total (numbers i w bytes) + number (take w rest)
    unfolding numbers total
    next-total = rw (numbers-add, total-append, so_far.left, add-zero)

    pub next-read : (x : ℕ) → i < n → x ≡ number (take w rest) → Read n w bytes (set xs i x) (i + 1) (drop w rest)
    unfolding numbers
    next-read x h e = record {
      stored = take_more_set xs i x (omega (arith, so_far.count)) ∙ rw (so_far.stored, e, so_far.left) (sym (numbers-add i 1 w bytes));
      left = rw (so_far.left, drop-drop) (ap (λ k. drop k bytes) (omega arith));
      count = rw length-set so_far.count;
      room = let k = so_far.room in omega (arith, length-drop w rest);
    }

  pub all-read : (rest : List ℕ) → Read n w bytes xs n rest → (xs ≡ numbers n w bytes) × (rest ≡ drop (n * w) bytes)
  all-read rest so_far = (rw (take_all n xs (omega (arith, so_far.count))) at so_far.stored, so_far.left)
