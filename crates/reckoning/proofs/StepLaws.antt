-- A step in terms of the year that was read.
-- Assumes nothing.
use Rattle.std.proofs.Common.{◌≡◌, ℕ, ◌<◌, Bool, true, false, List, refl, ap, ◌∙◌, arith}
use mathlib.Core.Option.{Option}
use Rattle.arithmetic.proofs.SumLaws.{sum2_cong}
use Rattle.classes.specs.Classes.{classes, emission_factor}
use Rattle.classes.specs.Matrix.{entry, table_of}
use Rattle.classes.proofs.MatrixLaws.{entry-table_of}
use Rattle.projection.specs.declared.Region.{Region}
use Rattle.projection.specs.Projection.{projected_carbon}
use Rattle.figures.specs.declared.Terms.{Terms}
use Rattle.figures.specs.declared.State.{State}
use Rattle.figures.specs.Year.{Year}
use Rattle.figures.specs.Figures.{monitored_carbon, counted_factor}
use Rattle.figures.specs.Reckoning.{region_reference, table_emissions, year_figures, after_year}
use Rattle.dossier.specs.Reader.{Judged, refused, accepted, after, ◌>>◌, give, holds, followed}
use Rattle.dossier.specs.Plan.{Plan, records_for}
use Rattle.dossier.specs.Causes.{planned_year_wrong}
use Rattle.dossier.specs.Judging.{year, allowed}
use Rattle.dossier.specs.Records.{figures_for}
use Rattle.years.specs.Answers.{Summary, summary, summarized_year}
use Rattle.reckoning.specs.declared.Advanced.{Advanced}
use Rattle.reckoning.specs.Step.{advanced_figures, carbon_advanced, summary_advanced, stepped_year}

-- ---- by the tables of the terms, a step is the year's own reckoning
-- what a year makes
unfoldable pub year_advanced : Terms → Year → State → Advanced
year_advanced t y state = record { state = after_year t y state; figures = year_figures t y state.project state.belt }

carbon-same : (f g : ℕ → ℕ → ℕ) (region : Region) (matrix : List ℕ) → ((i j : ℕ) → i < classes → j < classes → f i j ≡ g i j)
    → projected_carbon f region.areas matrix ≡ projected_carbon g region.areas matrix
unfolding projected_carbon
carbon-same f g region matrix h = sum2_cong classes _ _ (λ i j hi hj. rw (h i j hi hj))

monitored_same : (f g : ℕ → ℕ → ℕ) (xs : List ℕ) → ((i j : ℕ) → i < classes → j < classes → f i j ≡ g i j) → monitored_carbon f xs ≡ monitored_carbon g xs
unfolding monitored_carbon
monitored_same f g xs h = sum2_cong classes _ _ (λ i j hi hj. rw (h i j hi hj))

module _ (t : Terms) (factors counted : List ℕ) (ef : factors ≡ table_of (emission_factor t.stocks)) (ec : counted ≡ table_of (counted_factor t.option (emission_factor t.stocks))) where
  factor_is : (i j : ℕ) → i < classes → j < classes → entry factors i j ≡ emission_factor t.stocks i j
  factor_is i j hi hj = rw ef (entry-table_of (emission_factor t.stocks) i j hi hj)

  counted_is : (i j : ℕ) → i < classes → j < classes → entry counted i j ≡ counted_factor t.option (emission_factor t.stocks) i j
  counted_is i j hi hj = rw ec (entry-table_of (counted_factor t.option (emission_factor t.stocks)) i j hi hj)

  module _ (y : Year) (state : State) where
    abbrev read : Summary
    read = summary (entry counted) y

    figures-same : advanced_figures (entry factors) t.matrix read.days read.project read.belt read.activity state ≡ year_figures t y state.project state.belt
    unfolding advanced_figures year_figures region_reference table_emissions
    figures-same =
        rw (
          carbon-same (entry factors) (emission_factor t.stocks) state.project t.matrix factor_is,
          carbon-same (entry factors) (emission_factor t.stocks) state.belt t.matrix factor_is,
          monitored_same (entry counted) (counted_factor t.option (emission_factor t.stocks)) y.conversions counted_is,
          monitored_same (entry counted) (counted_factor t.option (emission_factor t.stocks)) y.belt_conversions counted_is,
        )

    advanced_same : summary_advanced (entry factors) t.matrix read state ≡ year_advanced t y state
    unfolding carbon_advanced year_advanced after_year
    advanced_same = rw figures-same

  -- what a year makes of the state goes by its own figures, whether it is refused for them or not
  made : (plan : Option Plan) (state : State) (b : Bool) (y : Year) (v : List ℕ)
      → after (holds planned_year_wrong b v) (λ _. give (year_advanced t y state)) ≡ after (after (holds planned_year_wrong b v) (λ _. give y)) (λ y. give (year_advanced t y state))
  unfolding holds give
  made plan state true y v = refl
  made plan state false y v = refl

  same : (plan : Option Plan) (state : State) (y : Year) (v : List ℕ)
      → after (holds planned_year_wrong (allowed y.planned (summary_advanced (entry factors) t.matrix (summary (entry counted) y) state).figures) v)
      (λ _. give (summary_advanced (entry factors) t.matrix (summary (entry counted) y) state))
      ≡ after (holds planned_year_wrong (allowed y.planned (figures_for (record { terms = t; state = state; plan = plan }) y)) v) (λ _. give (year_advanced t y state))
  unfolding year_advanced
  same plan state y v = ap (λ (a : Advanced). after (holds planned_year_wrong (allowed y.planned a.figures) v) (λ _. give a)) (advanced_same y state)

  joined : (plan : Option Plan) (state : State) (j : Judged Year)
      → after (after j (λ y. give (summary (entry counted) y)))
      (λ m. holds planned_year_wrong (allowed m.planned (summary_advanced (entry factors) t.matrix m state).figures) >> give (summary_advanced (entry factors) t.matrix m state))
      ≡ after (after j (λ y. holds planned_year_wrong (allowed y.planned (figures_for (record { terms = t; state = state; plan = plan }) y)) >> give y)) (λ y. give (year_advanced t y state))
  unfolding give followed
  joined plan state (refused n) = refl
  joined plan state (accepted y v) = same plan state y v ∙ made plan state (allowed y.planned (figures_for (record { terms = t; state = state; plan = plan }) y)) y v

  pub step_is : (plan : Option Plan) (state : State) (u : List ℕ)
      → stepped_year (entry factors) (entry counted) t.matrix (records_for plan state.year) t.start.0 t.beltstart.0 state u
      ≡ after (year (record { terms = t; state = state; plan = plan }) u) (λ y. give (year_advanced t y state))
  unfolding stepped_year summarized_year year give followed holds year_advanced
  step_is plan state u = grind (arith, advanced_same)
