-- All tonnes issued so far together: the greatest of 0 and the whole tonnes of every running total so far.
-- Assumes nothing.
use Rattle.std.proofs.Common.{◌≡◌, ℕ, zero, suc, ◌+◌, ◌-◌, ◌≤◌, max, List, [], ◌∷◌, map, ℤ, pos, ◌+ℤ◌, length, get_or, take, refl, ◌∙◌, ap, sym, arith}
use Rattle.std.proofs.Math.IntN.{+ℤ_assoc, +ℤ_idl}
use Rattle.arithmetic.specs.Sum.{int_sum}
use Rattle.arithmetic.proofs.IntegerSums.{int_sum-first}
use Rattle.classes.specs.Classes.{greatest_in}
use Rattle.figures.specs.Figures.{tonnes_of}
use Rattle.periods.specs.Periods.{issued_after}
use Rattle.periods.proofs.IssuedLaws.{issued_now_lem}

-- with those issued before
pub together_with : (before : ℕ) (totals : List ℤ) (k : ℕ) → k ≤ length totals
    → pos before +ℤ int_sum k (λ i. get_or (issued_after (pos before) totals) i (pos 0)) ≡ pos (max before (greatest_in (map tonnes_of (take k totals))))
unfolding issued_after greatest_in
together_with before totals zero h = unfold int_sum in ap pos (omega arith)
together_with before [] (suc k) h = absurd (omega arith)
together_with before (total ∷ totals) (suc k) h =
    let now = tonnes_of total - before in
    rw (int_sum-first k (λ i. get_or (issued_after (pos before) (total ∷ totals)) i (pos 0)), issued_now_lem before (tonnes_of total) total refl, ← +ℤ_assoc)
    (together_with (before + now) totals k (omega arith) ∙ ap pos (omega arith))

pub together : (totals : List ℤ) (k : ℕ) → k ≤ length totals
    → int_sum k (λ i. get_or (issued_after (pos 0) totals) i (pos 0)) ≡ pos (greatest_in (map tonnes_of (take k totals)))
together totals k h = sym (+ℤ_idl _) ∙ together_with 0 totals k h ∙ ap pos (omega arith)
