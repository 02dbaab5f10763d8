-- A ledger given years in range, one after the other: what it then carries, beside the unrounded reckoning of the same years.
-- Assumes nothing.
use Rattle.std.proofs.Common.{◌≡◌, ℕ, zero, suc, ◌+◌, ◌≤◌, ◌<◌, List, [], ◌∷◌, ℤ, pos, ◌+ℤ◌, length, get_or, refl, sym, arith}
use Rattle.std.proofs.lemmas.Grind.{common_steps, get_or-set_at}
use Rattle.std.proofs.Math.IntN.{+ℤ_assoc, +ℤ_idl, +ℤ_idr}
use Rattle.arithmetic.specs.Sum.{int_sum}
use Rattle.arithmetic.proofs.IntegerSums.{int_sum-first}
use Rattle.classes.specs.Classes.{emission_factor}
use Rattle.classes.specs.Matrix.{RowsSum}
use Rattle.figures.specs.Figures.{no_figures}
use Rattle.figures.specs.Year.{Year}
use Rattle.figures.specs.Reckoning.{record_count, after_figures, after_year}
use Rattle.assurance.specs.Unrounded.{Unrounded, fraction_after_years}
use Rattle.assurance.proofs.YearLaws.{Reckoned, year-reckoned}
use Rattle.periods.specs.Periods.{running_total, credited_in}
use Rattle.reckoner.specs.Ledger.{Ledger, due_of, given_year, given_years}
use Rattle.reckoner.proofs.Invariant.{YearsTaken}
use Rattle.promises.specs.Reported.{years_figures, projected_years}

-- a year changes no terms
pub given-terms : (ys : List Year) (l : Ledger) → (given_years ys l).terms ≡ l.terms
unfolding given_years given_year
given-terms [] l = refl
given-terms (y ∷ ys) l = given-terms ys (given_year y l)

-- ---- the figures: those of the years before stay, and each year adds its own
figures_stay : (ys : List Year) (l : Ledger) (i : ℕ) → i < l.given → get_or (given_years ys l).figures i no_figures ≡ get_or l.figures i no_figures
unfolding given_years given_year
figures_stay [] l i h = refl
figures_stay (y ∷ ys) l i h = grind (arith, common_steps, figures_stay ys (given_year y l) i)

pub own-figures : (ys : List Year) (l : Ledger) → l.given + length ys ≤ length l.figures → (k : ℕ) → k < length ys
    → get_or (given_years ys l).figures (l.given + k) no_figures ≡ get_or (years_figures l.terms l.state.project l.state.belt ys) k no_figures
unfolding given_years given_year after_year after_figures years_figures
own-figures [] l h k q = absurd (omega arith)
own-figures (y ∷ ys) l h zero q = grind (arith, common_steps, get_or-set_at, figures_stay ys (given_year y l) l.given)
own-figures (y ∷ ys) l h (suc k) q = grind (arith, common_steps, own-figures ys (given_year y l))

-- the total is the running total of all of them
pub given-total : (ys : List Year) (l : Ledger)
    → (given_years ys l).state.total.0 ≡ l.state.total.0 +ℤ running_total (credited_in (years_figures l.terms l.state.project l.state.belt ys)) (length ys)
unfolding given_years given_year after_year after_figures years_figures
given-total [] l = unfold int_sum in sym (+ℤ_idr _)
given-total (y ∷ ys) l = rw (int_sum-first (length ys) _, ← +ℤ_assoc) (given-total ys (given_year y l))

pub from_nothing : (z x : ℤ) → z ≡ pos 0 → z +ℤ x ≡ x
from_nothing z x e = rw e (+ℤ_idl x)

-- ---- both regions, projected year by year
pub given-project : (ys : List Year) (l : Ledger) → (given_years ys l).state.project ≡ projected_years l.terms.matrix ys l.state.project
unfolding given_years given_year after_year after_figures projected_years
given-project [] l = refl
given-project (y ∷ ys) l = given-project ys (given_year y l)

pub given-belt : (ys : List Year) (l : Ledger) → (given_years ys l).state.belt ≡ projected_years l.terms.matrix ys l.state.belt
unfolding given_years given_year after_year after_figures projected_years
given-belt [] l = refl
given-belt (y ∷ ys) l = given-belt ys (given_year y l)

-- ---- beside the unrounded reckoning
pub years-reckoned : (G : ℕ) (ys : List Year) (l : Ledger) → ((i j : ℕ) → emission_factor l.terms.stocks i j ≤ G) → (1 ≤ l.state.left → RowsSum l.terms.matrix) → YearsTaken l ys
    → (n m start beltstart : ℕ) (u : Unrounded) → Reckoned G n m start beltstart l.state u
    → Reckoned G (n + length ys) (m + record_count ys) start beltstart (given_years ys l).state (fraction_after_years l.terms ys u)
unfolding given_years given_year due_of fraction_after_years record_count
years-reckoned G [] l factors rows h n m start beltstart u r =
    let e : n + 0 ≡ n = omega arith in
    let f : m + 0 ≡ m = omega arith in
    rw (e, f) r
years-reckoned G (y ∷ ys) l factors rows h n m start beltstart u r =
    let e : n + suc (length ys) ≡ suc n + length ys = omega arith in
    let f : m + (length y.activities + record_count ys) ≡ m + length y.activities + record_count ys = omega arith in
    let some : RowsSum l.terms.matrix = rows h.0.2.left in
    rw (e, f) (years-reckoned G ys (given_year y l) factors (λ _. some) h.1 (suc n) (m + length y.activities) start beltstart _
    (year-reckoned l.terms G factors some n m start beltstart l.state u r y h.0.2.days.most))
