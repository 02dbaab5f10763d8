-- The figures of a year in range are within the ladder.
-- Assumes nothing.
use Rattle.std.proofs.Common.{ℕ, ◌≤◌, List, get_or, refl, arith}
use Rattle.classes.specs.Classes.{emission_factor, greatest_stock}
use Rattle.classes.specs.Calendar.{days_in_year}
use Rattle.classes.specs.Ranges.{greatest_emissions}
use Rattle.classes.proofs.FactorLaws.{factor_le}
use Rattle.projection.specs.declared.Region.{Region}
use Rattle.classes.specs.Ranges.{RowsWithin}
use Rattle.projection.specs.Ranges.{SmallArea, SmallRegion}
use Rattle.activity.proofs.ActivityLaws.{emissions-le}
use Rattle.figures.specs.declared.Terms.{Terms}
use Rattle.figures.specs.declared.YearDays.{YearDays}
use Rattle.figures.specs.Year.{Year}
use Rattle.figures.specs.Figures.{counted_factor}
use Rattle.figures.specs.Ranges.{SmallTable, FiguresSmall}
use Rattle.figures.specs.Reckoning.{region_reference, table_emissions, year_figures}
use Rattle.figures.proofs.CountedLaws.{small-counted}
use Rattle.figures.proofs.FiguresLaws.{figures-small, projected-small, calendar_days, reference-small, emissions-small, monitored_small}
use Rattle.dossier.specs.Records.{Due, ConversionsInRange, YearInRange}
use Rattle.dossier.specs.Claims.{DueInRange}
use Rattle.dossier.proofs.PlanLaws.{taken_range}
use Rattle.wire.proofs.NumbersLaws.{total-entries}

-- by stocks of at most the greatest, and a matrix whose rows sum to at most 1,000,000
module _ (t : Terms) (stocks : (i : ℕ) → get_or t.stocks i 0 ≤ greatest_stock) (rows : RowsWithin t.matrix) (due : Due) (settled : DueInRange due) (y : Year) (h : YearInRange due y) where
  reference_range : (region : Region) → SmallRegion region → region_reference t y region ≤ greatest_emissions
  unfolding region_reference
  reference_range region r =
      let small = projected-small region t.matrix (emission_factor t.stocks) r rows (factor_le t.stocks greatest_stock stocks) in
      let days : YearDays = record { operating = y.operating_days; calendar = days_in_year y.year } in
      reference-small small days (calendar_days days y.year refl h.days.most)

  table_range : (sum : ℕ) (conversions : List ℕ) → SmallArea sum → ConversionsInRange sum conversions → table_emissions t conversions ≤ greatest_emissions
  unfolding table_emissions
  table_range sum conversions s c =
      let few : SmallTable conversions = omega (arith, c.totals, rw c.count at (total-entries conversions)) in
      emissions-small (monitored_small conversions (counted_factor t.option (emission_factor t.stocks)) few (small-counted t.stocks stocks t.option))

  pub figures_range : (project belt : Region) → SmallRegion project → SmallRegion belt → FiguresSmall (year_figures t y project belt)
  unfolding year_figures
  figures_range project belt p b =
      let taken = taken_range due.plan settled.plan y.year y.planned y.activities h.records in
      figures-small _ _ _ _ _
      (reference_range project p)
      (table_range due.terms.start.0 y.conversions settled.start h.conversions)
      (omega (arith, taken.count, emissions-le y.activities taken.each))
      (table_range due.terms.beltstart.0 y.belt_conversions settled.beltstart h.belt_conversions)
      (reference_range belt b)
