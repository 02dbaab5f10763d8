-- #107, "Verification periods": which lists of period ends are sound, running credited totals, and the tonnes issued at each end.
-- To be believed. Assumes nothing.
use Rattle.std.specs.Prelude.{ℕ, ◌+◌, ◌-◌, ◌≤◌, ◌<◌, ◌≡◌, Bool, true, false, cond, List, [], ◌∷◌, map, ltb, eqb, ℤ, pos, ◌+ℤ◌, ◌-ℤ◌, length, get_or}
use Rattle.arithmetic.specs.Sum.{int_sum}
use Rattle.arithmetic.specs.Rounding.{positive_part}
use Rattle.figures.specs.declared.Figures.{Figures}
use Rattle.figures.specs.Figures.{no_figures, tonnes_of}

-- "inside the dossier's years", n from first on
abbrev pub Inside : (first n : ℕ) (ends : List ℕ) → Type 0
Inside first n ends = (i : ℕ) → i < length ends → (first ≤ get_or ends i 0) × (get_or ends i 0 < first + n)

-- "A list of up to 20 period end years (.. rising, inside the dossier's years, the last being its last year)"; "an empty list means one period"
pub record EndsInRange (first n : ℕ) (ends : List ℕ) : Type 0 where
  pub most : length ends ≤ 20
  pub rising : (i : ℕ) → i + 1 < length ends → get_or ends i 0 < get_or ends (i + 1) 0
  pub inside : Inside first n ends
  pub last : (i : ℕ) → i + 1 ≡ length ends → get_or ends i 0 + 1 ≡ first + n

-- that as a test: no end is before the least year that is left, the first or the one after the end before it, none is as late as the year beyond the
-- last, and after the last end that one is left. Such a list has no more ends than years, and for at most 20 years the test holds just of the lists in
-- range (`ends-judged`, in proofs/EndsLaws).
unfoldable pub ends_from : (least beyond : ℕ) → List ℕ → Bool
ends_from least beyond [] = eqb least beyond
ends_from least beyond (end ∷ ends) = cond (ltb end least) false (cond (ltb end beyond) (ends_from (end + 1) beyond ends) false)

unfoldable pub ends_sound : (first n : ℕ) → List ℕ → Bool
ends_sound first n [] = true
ends_sound first n (end ∷ ends) = ends_from first (first + n) (end ∷ ends)

-- "Keep running credited totals": that of the first y years, from the credited grams of each
abbrev pub running_total : (credited : ℕ → ℤ) (y : ℕ) → ℤ
running_total credited y = int_sum y credited

-- the credited grams of year k, counted from 0
abbrev pub credited_in : List Figures → ℕ → ℤ
credited_in figures k = (get_or figures k no_figures).credited.0

-- "the whole tonnes of the running total less those issued before, and 0 if that is negative"
unfoldable pub issued_now : (before total : ℤ) → ℤ
issued_now before total = positive_part (pos (tonnes_of total) -ℤ before)

-- at each of the running totals in turn
unfoldable pub issued_after : (before : ℤ) → List ℤ → List ℤ
issued_after before [] = []
issued_after before (total ∷ totals) = issued_now before total ∷ issued_after (before +ℤ issued_now before total) totals

-- the running totals at the ends, of the years from first to each end
abbrev pub totals_at : (first : ℕ) (credited : ℕ → ℤ) (ends : List ℕ) → List ℤ
totals_at first credited ends = map (λ (end : ℕ). running_total credited (end + 1 - first)) ends

-- the tonnes issued at each end
abbrev pub issued_tonnes : (first : ℕ) (credited : ℕ → ℤ) (ends : List ℕ) → List ℤ
issued_tonnes first credited ends = issued_after (pos 0) (totals_at first credited ends)
