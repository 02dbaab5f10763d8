-- #107, "Verification periods": what the bytes that the whole reckoning wrote with a list of period ends say of the tonnes issued.
-- To be believed. Assumes nothing.
use Rattle.std.specs.Prelude.{ℕ, ◌+◌, ◌-◌, ◌*◌, ◌^◌, ◌≤◌, ◌<◌, ◌≡◌, List, [], ◌∷◌, map, ℤ, pos, ◌-ℤ◌, length, get_or, take}
use Rattle.std.specs.Int.Signed.{mag}
use Rattle.arithmetic.specs.Sum.{int_sum}
use Rattle.classes.specs.Classes.{greatest_in}
use Rattle.figures.specs.Figures.{tonnes_of}
use Rattle.wire.specs.Signed.{figure_at}
use Rattle.periods.specs.Periods.{running_total, totals_at, issued_tonnes}
use Rattle.promises.specs.Reported.{credited_at}

-- "They follow the balances in the buffer, 64 bits per listed end": the tonnes issued at the i-th end, counted from 0, after n years
abbrev pub issued_at : (n : ℕ) → List ℕ → ℕ → ℤ
issued_at n closed i = figure_at closed (64 * n + 32 + 8 * i)

-- of n years from first on, the running totals being those of the credited figures in the same bytes: the tonnes issued at each end; "after each end, all
-- issued tonnes together equal the greatest of 0 and the whole tonnes of every running total at an end so far"; a list of one end, the last year, issues
-- what the tonnes field has; "the grams of any stretch of years come from two of them", are the sum of its years, and 64 bits hold them
pub record PeriodsReported (first n : ℕ) (ends closed : List ℕ) : Type 0 where
  pub issued : (i : ℕ) → i < length ends → issued_at n closed i ≡ get_or (issued_tonnes first (credited_at closed) ends) i (pos 0)
  pub together : (k : ℕ) → k ≤ length ends → int_sum k (issued_at n closed) ≡ pos (greatest_in (map tonnes_of (take k (totals_at first (credited_at closed) ends))))
  pub single : (end : ℕ) → ends ≡ end ∷ [] → issued_at n closed 0 ≡ figure_at closed (64 * n + 8)
  pub stretch : (a b : ℕ) → a ≤ b → b ≤ n
      → running_total (credited_at closed) b -ℤ running_total (credited_at closed) a ≡ int_sum (b - a) (λ k. credited_at closed (a + k))
  pub held : (a b : ℕ) → a ≤ b → b ≤ n → mag (running_total (credited_at closed) b -ℤ running_total (credited_at closed) a) < 2 ^ 63
