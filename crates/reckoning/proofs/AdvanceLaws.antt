-- A year reckoned from its summary: ranges, and the whole of what it makes.
-- Assumes nothing.
use mathlib.Core.Path.{◌≡◌, ◌∙◌, ap}
use mathlib.Core.List.{List}
use Prim.Native.Nat.{ℕ, ◌+◌, ◌-◌, ◌≤◌}
use native.Mathlib.Omega.{arith}
use lib.IntN.{ℤ, ◌+ℤ◌}
use lib.Signed.{mag}
use mir.Syntax.{w64}
use mir.Val.{SFits}
use Rattle.units.specs.declared.CarbonUnits.{CarbonUnits}
use Rattle.units.specs.declared.Grams.{Grams}
use Rattle.classes.specs.Matrix.{entry}
use Rattle.classes.specs.Ranges.{greatest_activity, greatest_total}
use Rattle.classes.proofs.RangeLaws.{plus_fits}
use Rattle.projection.specs.declared.Region.{Region}
use Rattle.projection.specs.declared.Projected.{Projected}
use Rattle.projection.specs.Inflow.{projected_year}
use Rattle.projection.specs.Ranges.{SmallRegion}
use Rattle.classes.specs.Ranges.{RowsWithin, FactorsFit}
use Rattle.projection.proofs.ProjectionLaws.{fitting_le}
use Rattle.figures.specs.declared.Figures.{Figures}
use Rattle.figures.specs.declared.YearDays.{YearDays}
use Rattle.figures.specs.Ranges.{SmallCarbon, SmallYear, DaysOf, SmallNet, FiguresSmall}
use Rattle.figures.specs.Carbon.{carbon_figures}
use Rattle.figures.proofs.FiguresLaws.{projected-small, year-small}
use Rattle.figures.specs.declared.State.{State}
use Rattle.figures.specs.Reckoning.{after_figures}
use Rattle.reckoning.specs.declared.Advanced.{Advanced}
use Rattle.reckoning.specs.Step.{advanced_figures, carbon_advanced}

-- the carbon of a small region is small
pub carbon-small : (matrix factors : List ℕ) (region : Region) (r : Projected) → RowsWithin matrix → FactorsFit factors → SmallRegion region
    → r ≡ projected_year (entry factors) matrix region → SmallCarbon r.carbon.0
unfolding projected_year
carbon-small matrix factors region r rows fit small e = rw e (projected-small region matrix (entry factors) small rows (fitting_le factors fit))

module _ (matrix factors : List ℕ) (state : State) (days : YearDays) (p b : CarbonUnits) (a : Grams) (r r' : Projected) (figures : Figures)
    (e : r ≡ projected_year (entry factors) matrix state.project) (e' : r' ≡ projected_year (entry factors) matrix state.belt)
    (ef : figures ≡ carbon_figures (record { projected = r.carbon; monitored = p }) (record { projected = r'.carbon; monitored = b }) a.0 days) where
  figures_are : figures ≡ advanced_figures (entry factors) matrix days p b a state
  unfolding advanced_figures projected_year
  figures_are = ef ∙ rw (e, e')

  module _ (hp : SmallYear (record { projected = r.carbon; monitored = p })) (hb : SmallYear (record { projected = r'.carbon; monitored = b }))
      (ha : mag a.0 ≤ greatest_activity) (hd : DaysOf days) where
    small : FiguresSmall figures
    small = rw ef (year-small _ _ a.0 days hp hb ha hd)

    pub net_small : SmallNet figures
    net_small = (small.project, small.activity, small.displaced)

    pub grown_fits : mag state.total.0 ≤ greatest_total → SFits w64 (state.total.0 +ℤ figures.credited.0)
    grown_fits ht = plus_fits state.total.0 figures.credited.0 ht (omega (arith, small.credited))

  pub whole : (grown : Grams) → grown.0 ≡ state.total.0 +ℤ figures.credited.0
      → ◌≡◌ {A = Advanced} (record { state = record { year = state.year + 1; left = state.left - 1; project = r.region; belt = r'.region; total = grown }; figures = figures })
      (carbon_advanced (entry factors) matrix days p b a state)
  unfolding carbon_advanced after_figures projected_year
  whole grown g =
      let eg : grown ≡ record { 0 = state.total.0 +ℤ figures.credited.0 } = ap {B = Grams} (λ (z : ℤ). record { 0 = z }) g in
      rw (eg, e, e', figures_are)
