-- Demands 2 and 3 of one closing, or of the whole reckoning: what the bytes that it wrote say.
-- To be believed. Assumes nothing.
use Rattle.std.specs.Prelude.{ℕ, ◌+◌, ◌*◌, ◌<◌, ◌≡◌, List, [], ◌∷◌, ℤ, pos, length, get_or}
use Rattle.arithmetic.specs.Fraction.{Fraction}
use Rattle.classes.specs.Classes.{greatest_in}
use Rattle.projection.specs.declared.Region.{Region}
use Rattle.projection.specs.Projection.{projected_region}
use Rattle.figures.specs.declared.Terms.{Terms}
use Rattle.figures.specs.declared.Figures.{Figures}
use Rattle.figures.specs.Figures.{tonnes_of, no_figures}
use Rattle.figures.specs.Year.{Year}
use Rattle.figures.specs.Reckoning.{year_figures, record_count}
use Rattle.assurance.specs.Unrounded.{fraction_opened, fraction_after_years}
use Rattle.assurance.specs.Assurance.{RegionAssured, TotalAssured}
use Rattle.wire.specs.Signed.{figure_at}
use Rattle.report.specs.Report.{eight}
use Rattle.periods.specs.Periods.{running_total}
use Rattle.dossier.specs.Records.{Settled}

-- "each year from its own tables": the figures of years one after the other, each over the areas that the projections before it left
unfoldable pub years_figures : Terms → (project belt : Region) → List Year → List Figures
years_figures t project belt [] = []
years_figures t project belt (y ∷ ys) = year_figures t y project belt ∷ years_figures t (projected_region t.matrix project) (projected_region t.matrix belt) ys

-- the credited grams of year k, counted from 0, in the bytes
abbrev pub credited_at : List ℕ → ℕ → ℤ
credited_at closed k = figure_at closed (64 * k + 56)

-- a region after years of projection
unfoldable pub projected_years : List ℕ → List Year → Region → Region
projected_years matrix [] region = region
projected_years matrix (y ∷ ys) region = projected_years matrix ys (projected_region matrix region)

-- of a region after y accepted years: the figure read at its place in the bytes that closing wrote is the balance, and with it the projected areas
-- are as demand 3 says
pub record RegionReported (y start : ℕ) (figure : ℤ) (region : Region) (unrounded : ℕ → Fraction) : Type 0 where
  pub decoded : figure ≡ pos region.balance.0
  pub assured : RegionAssured y start region.areas region.balance.0 unrounded

-- the bytes of a closing, or of the whole reckoning, after accepted years that followed an opening, for what the opening settled (opened): the eight
-- figures of each year from its own records; the total, which is the sum of credited ("Period total = sum of credited"), and its tonnes; the total against
-- the unrounded one; the balances against the projected areas
pub record Reported (opened : Settled) (years : List Year) (closed : List ℕ) : Type 0 where
  pub figures : (k j : ℕ) → k < length years → j < 8
      → figure_at closed (64 * k + 8 * j) ≡ get_or (eight (get_or (years_figures opened.terms opened.state.project opened.state.belt years) k no_figures)) j (pos 0)
  pub total : figure_at closed (64 * length years) ≡ running_total (credited_at closed) (length years)
  pub tonnes : figure_at closed (64 * length years + 8) ≡ pos (tonnes_of (figure_at closed (64 * length years)))
  pub assured : TotalAssured (greatest_in opened.terms.stocks) (length years) (record_count years) (figure_at closed (64 * length years))
      (fraction_after_years opened.terms years (fraction_opened opened.state)).total
  pub project : RegionReported (length years) opened.terms.start.0 (figure_at closed (64 * length years + 16))
      (projected_years opened.terms.matrix years opened.state.project) (fraction_after_years opened.terms years (fraction_opened opened.state)).project
  pub belt : RegionReported (length years) opened.terms.beltstart.0 (figure_at closed (64 * length years + 24))
      (projected_years opened.terms.matrix years opened.state.belt) (fraction_after_years opened.terms years (fraction_opened opened.state)).belt
