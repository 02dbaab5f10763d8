-- Lists of numbers: more of them, the next one, and their total.
-- Assumes nothing.
use Rattle.std.proofs.Common.{ℕ, zero, suc, ◌+◌, ◌-◌, ◌*◌, ◌≤◌, ◌≡◌, refl, ◌∙◌, ap, List, [], ◌∷◌, ◌++◌, zero-add, add-zero, suc-add, add_assoc, zero-mul, mul_comm, one-add, arith, length, take, drop, get_or, drop-drop}
use Rattle.arithmetic.specs.Sum.{sum}
use Rattle.arithmetic.proofs.SumLaws.{sum_split}
use Rattle.wire.specs.Bytes.{number, numbers, total, field_at}

pub numbers-add : (i j w : ℕ) (s : List ℕ) → numbers (i + j) w s ≡ numbers i w s ++ numbers j w (drop (i * w) s)
unfolding numbers
numbers-add zero j w s = rw (zero-add, zero-mul)
numbers-add (suc i) j w s =
    let e : suc i * w ≡ w + i * w = omega arith in
    rw suc-add (ap (λ (l : List ℕ). number (take w s) ∷ l) (rw (drop-drop (i * w) w s, ← e) at (numbers-add i j w (drop w s))))

pub total-append : (a b : List ℕ) → total (a ++ b) ≡ total a + total b
unfolding total
total-append [] b = rw zero-add
total-append (x ∷ a) b = rw (total-append a b, add_assoc)

-- the total of more numbers is at least that of fewer
pub total-le : (i j w : ℕ) (s : List ℕ) → i ≤ j → total (numbers i w s) ≤ total (numbers j w s)
total-le i j w s h =
    let e : i + (j - i) ≡ j = omega arith in
    rw (← e) (rw (numbers-add, total-append) (omega arith))

-- one number more, from its place in the bytes, and the total with it
pub next-number : (w i : ℕ) (s : List ℕ) (at x : ℕ) → x ≡ field_at w s (at + w * i)
    → (numbers (suc i) w (drop at s) ≡ numbers i w (drop at s) ++ (x ∷ [])) × (total (numbers (suc i) w (drop at s)) ≡ total (numbers i w (drop at s)) + x)
unfolding numbers total field_at
next-number w i s at x e =
    let k : suc i ≡ i + 1 = omega arith in
    let n : numbers (suc i) w (drop at s) ≡ numbers i w (drop at s) ++ (x ∷ []) =
    ap (λ (m : ℕ). numbers m w (drop at s)) k ∙ numbers-add i 1 w (drop at s) ∙ rw (drop-drop (i * w) at s, mul_comm i w, ← e) in
    (n, ap total n ∙ rw (total-append, add-zero))

-- the total of a list is the sum of its entries
pub total-entries : (xs : List ℕ) → total xs ≡ sum (length xs) (λ k. get_or xs k 0)
unfolding total sum
total-entries [] = refl
total-entries (x ∷ xs) = omega (arith, total-entries xs, simp one-add at (sum_split 1 (length xs) (λ k. get_or (x ∷ xs) k 0)))
