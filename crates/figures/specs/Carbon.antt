-- A year's figures from the carbon of project area and belt, as the code takes them.
-- Serves contracts of inner functions and proofs; nothing here has to be believed. Assumes nothing.
use Rattle.std.specs.Prelude.{ℤ, pos}
use Rattle.figures.specs.declared.Figures.{Figures}
use Rattle.figures.specs.declared.YearCarbon.{YearCarbon}
use Rattle.figures.specs.declared.YearDays.{YearDays}
use Rattle.figures.specs.Figures.{reference_level, stock_change_emissions, figures_of}

-- those of a year of these days, from the carbon of project area and belt and the emissions of the activity records
abbrev pub carbon_figures : (project belt : YearCarbon) → (activity : ℤ) → YearDays → Figures
carbon_figures project belt activity days =
    figures_of (pos (reference_level project.projected.0 days.operating days.calendar)) (pos (stock_change_emissions project.monitored.0)) activity
    (pos (stock_change_emissions belt.monitored.0)) (pos (reference_level belt.projected.0 days.operating days.calendar))
