-- Running totals as the code keeps them, and that they fit 64 signed bits.
-- Assumes nothing.
use Rattle.std.proofs.Common.{◌≡◌, ℕ, suc, ◌+◌, ◌-◌, ◌^◌, ◌*◌, ◌≤◌, ◌<◌, List, [], ◌∷◌, map, length, ℤ, pos, ◌+ℤ◌, take, set, refl, ap, arith}
use Rattle.std.specs.Int.{w64}
use Rattle.std.specs.Int.Signed.{mag}
use Rattle.std.specs.Int.RustNames.{FitsSigned}
use Rattle.std.proofs.lemmas.Grind.{common_steps, get_or-set_at}
use Rattle.std.proofs.lemmas.List.{get_or-take}
use borrow.Author.Rules.{sfits_of}
use Rattle.arithmetic.proofs.IntegerLaws.{mag_plus}
use Rattle.arithmetic.proofs.IntegerSums.{int_sum-next, int_sum_mag, int_sum_cong}
use Rattle.units.specs.declared.Grams.{Grams}
use Rattle.classes.specs.Ranges.{greatest_figure}
use Rattle.figures.specs.declared.Figures.{Figures}
use Rattle.figures.specs.Figures.{no_figures}
use Rattle.periods.specs.Ranges.{SmallYears, kept_at, Kept, Small}
use Rattle.periods.specs.Periods.{Inside, running_total, credited_in, issued_after, issued_tonnes}

-- no running total leaves 63 bits
pub running_fits : (k : ℕ) (figures : List Figures) → SmallYears k figures → (y : ℕ) → y ≤ k → mag (running_total (credited_in figures) y) < 2 ^ 63
running_fits k figures small y h = omega (arith, small.few, int_sum_mag greatest_figure y (credited_in figures) (λ i l. small.credits i (omega arith)))

pub kept_fits : (k : ℕ) (figures : List Figures) (totals : List Grams) → SmallYears k figures → Kept k figures totals → (y : ℕ) → y ≤ k → mag (kept_at totals y) < 2 ^ 63
kept_fits k figures totals small kept y h = rw (kept.at y h) (running_fits k figures small y h)

-- ---- one year more
pub next_fits : (total credit : ℤ) (years : ℕ) → years < 20 → mag total ≤ years * greatest_figure → mag credit < greatest_figure → FitsSigned w64 (total +ℤ credit)
next_fits total credit years few h l = sfits_of (omega (arith, mag_plus total credit))

module _ (totals : List Grams) (y : ℕ) (room : y + 1 < length totals) (next : Grams) where
  -- the total that is kept for it, and those kept before
  pub kept_next : (figures : List Figures) → Kept y figures totals → next.0 ≡ kept_at totals y +ℤ credited_in figures y → Kept (y + 1) figures (set totals (y + 1) next)
  kept_next figures kept e = record { at = λ z h. grind (arith, common_steps, get_or-set_at, kept.at, int_sum-next) }

  pub small_next : (credit : ℤ) → Small y totals → mag credit < greatest_figure → next.0 ≡ kept_at totals y +ℤ credit → Small (y + 1) (set totals (y + 1) next)
  small_next credit small l e z h = grind (arith, common_steps, get_or-set_at, small, mag_plus)

-- totals that are the same after each of the years are the same at ends within them
pub totals-same : (first n : ℕ) (f g : ℕ → ℤ) → ((y : ℕ) → y ≤ n → f y ≡ g y) → (ends : List ℕ)
    → Inside first n ends
    → map (λ (end : ℕ). f (end + 1 - first)) ends ≡ map (λ (end : ℕ). g (end + 1 - first)) ends
totals-same first n f g same [] inside = refl
totals-same first n f g same (end ∷ ends) inside =
    let (later, early) = inside 0 (omega arith) in
    rw (same (end + 1 - first) (omega arith), totals-same first n f g same ends (λ i h. inside (suc i) (omega arith)))

-- at ends within the first k years, no later year counts
pub first_years_issue : (k first : ℕ) (figures : List Figures) (ends : List ℕ) → Inside first k ends
    → issued_tonnes first (credited_in (take k figures)) ends ≡ issued_tonnes first (credited_in figures) ends
first_years_issue k first figures ends inside =
    ap (issued_after (pos 0))
    (totals-same first k (running_total (credited_in (take k figures))) (running_total (credited_in figures))
    (λ y h. int_sum_cong y (credited_in (take k figures)) (credited_in figures)
    (λ i l. ap (λ (f : Figures). f.credited.0) (get_or-take k figures i no_figures (omega arith))))
    ends inside)
