-- Ranges in which every figure of a year fits 64 signed bits, by the ladder of the crate classes.
-- Serves contracts of inner functions and proofs; nothing here has to be believed. Assumes nothing.
use Rattle.std.specs.Prelude.{ℕ, ◌≤◌, ◌<◌, List, get_or}
use Rattle.std.specs.Int.Signed.{mag}
use Rattle.arithmetic.specs.Sum.{sum}
use Rattle.classes.specs.Classes.{greatest_area}
use Rattle.classes.specs.Ranges.{greatest_carbon, greatest_figure}
use Rattle.projection.specs.Ranges.{SmallArea}
use Rattle.figures.specs.declared.Figures.{Figures}
use Rattle.figures.specs.declared.Terms.{Terms}
use Rattle.figures.specs.declared.YearCarbon.{YearCarbon}
use Rattle.figures.specs.declared.YearDays.{YearDays}

-- the carbon of a region or a table
abbrev pub SmallCarbon : ℕ → Type 0
SmallCarbon carbon = carbon ≤ greatest_carbon

abbrev pub SmallYear : YearCarbon → Type 0
SmallYear c = SmallCarbon c.projected.0 × SmallCarbon c.monitored.0

-- days of operation within the days of a calendar year
abbrev pub DaysOf : YearDays → Type 0
DaysOf days = (days.operating ≤ days.calendar) × (0 < days.calendar) × (days.calendar ≤ 366)

-- the figures by which a year with planned quantities is judged, small enough for 64 bits
abbrev pub SmallNet : Figures → Type 0
SmallNet f = (mag f.project.0 < greatest_figure) × (mag f.activity.0 < greatest_figure) × (mag f.displaced.0 < greatest_figure)

-- a table of conversions, by the area of all of them
abbrev pub SmallTable : List ℕ → Type 0
SmallTable conversions = sum 144 (λ k. get_or conversions k 0) ≤ greatest_area

-- ---- all eight figures, and what is true of every Terms of the code
pub record FiguresSmall (figures : Figures) : Type 0 where
  pub reference : mag figures.reference.0 < greatest_figure
  pub project : mag figures.project.0 < greatest_figure
  pub activity : mag figures.activity.0 < greatest_figure
  pub belt : mag figures.belt.0 < greatest_figure
  pub belt-reference : mag figures.belt_reference.0 < greatest_figure
  pub displaced : mag figures.displaced.0 < greatest_figure
  pub reduction : mag figures.reduction.0 < greatest_figure
  pub credited : mag figures.credited.0 < greatest_figure

pub record TermsSmall (terms : Terms) : Type 0 where
  pub start : SmallArea terms.start.0
  pub beltstart : SmallArea terms.beltstart.0
