-- One year's reckoning over the bytes, from a year's summary and by tables of factors.
-- Serves contracts of inner functions and proofs; nothing here has to be believed. Assumes nothing.
use Rattle.std.specs.Prelude.{ℕ, List}
use Rattle.std.proofs.Math.Option.{Option}
use Rattle.units.specs.declared.CarbonUnits.{CarbonUnits}
use Rattle.units.specs.declared.Grams.{Grams}
use Rattle.projection.specs.Projection.{projected_carbon}
use Rattle.activity.specs.Records.{Activity}
use Rattle.figures.specs.declared.Figures.{Figures}
use Rattle.figures.specs.declared.State.{State}
use Rattle.figures.specs.declared.YearDays.{YearDays}
use Rattle.figures.specs.Carbon.{carbon_figures}
use Rattle.figures.specs.Reckoning.{after_figures}
use Rattle.dossier.specs.Reader.{Reader, ◌>>=◌, ◌>>◌, give, holds}
use Rattle.dossier.specs.Causes.{planned_year_wrong}
use Rattle.dossier.specs.Judging.{allowed}
use Rattle.years.specs.Answers.{Summary, summarized_year}
use Rattle.reckoning.specs.declared.Advanced.{Advanced}

-- a year's figures, and what it makes, from the carbon of its tables and the emissions of its records
unfoldable pub advanced_figures : (ℕ → ℕ → ℕ) → List ℕ → YearDays → (project belt : CarbonUnits) → Grams → State → Figures
advanced_figures factor matrix days project belt activity state =
    carbon_figures (record { projected = record { 0 = projected_carbon factor state.project.areas matrix }; monitored = project })
    (record { projected = record { 0 = projected_carbon factor state.belt.areas matrix }; monitored = belt }) activity.0 days

unfoldable pub carbon_advanced : (ℕ → ℕ → ℕ) → List ℕ → YearDays → (project belt : CarbonUnits) → Grams → State → Advanced
carbon_advanced factor matrix days project belt activity state = record {
  state = after_figures matrix (advanced_figures factor matrix days project belt activity state) state;
  figures = advanced_figures factor matrix days project belt activity state;
}

-- from its summary
abbrev pub summary_advanced : (ℕ → ℕ → ℕ) → List ℕ → Summary → State → Advanced
summary_advanced factor matrix m state = carbon_advanced factor matrix m.days m.project m.belt m.activity state

-- the year that is due at the bytes' start, reckoned
unfoldable pub stepped_year : (factor counted : ℕ → ℕ → ℕ) → List ℕ → (from_plan : Option (List Activity)) (start beltstart : ℕ) → State → Reader Advanced
stepped_year factor counted matrix from_plan start beltstart state = do
  m ← summarized_year counted from_plan state.year state.left start beltstart
  holds planned_year_wrong (allowed m.planned (summary_advanced factor matrix m state).figures)
  give (summary_advanced factor matrix m state)
