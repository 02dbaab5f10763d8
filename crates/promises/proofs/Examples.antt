-- The marked examples hold, by computation from the definitions that the contracts cite.
-- Assumes nothing.
use mathlib.Core.Path.{◌≡◌, refl}
use mathlib.Core.List.{map}
use lib.IntN.{pos, ◌*ℤ◌}
use Rattle.arithmetic.specs.Sum.{sum, listed}
use Rattle.arithmetic.specs.Rounding.{ceil_div}
use Rattle.arithmetic.specs.Fraction.{Fraction, whole, ◌+ᶠ◌, ◌-ᶠ◌, fraction_neg, ◌×ᶠ◌, ◌÷ᶠ◌by◌, if_positive, fraction_sum}
use Rattle.classes.specs.Classes.{carbon_stocks, deforestation_probabilities, emission_factor}
use Rattle.classes.specs.Matrix.{option_one, option_one_matrix}
use Rattle.classes.specs.Calendar.{days_in_year}
use Rattle.projection.specs.Projection.{projected_carbon, next_area, next_areas, lost_area, opened_region, projected_region}
use Rattle.activity.specs.Activity.{numerator, denominator, activity_grams, activity_emissions}
use Rattle.figures.specs.Figures.{reference_level, monitored_carbon, counted_factor, stock_change_emissions, displaced_emissions, reduction_of, credited_of, tonnes_of, figures_of}
use Rattle.figures.specs.Reckoning.{region_reference, table_emissions, year_figures, after_figures, after_year}
use Rattle.assurance.specs.Unrounded.{fraction_opened, fraction_flow, fraction_carbon, fraction_reference, fraction_emissions, fraction_activity, fraction_displaced, fraction_reduction, fraction_credited, fraction_after_year, fraction_after_years}
use Rattle.wire.specs.Bytes.{number, bytes, numbers, bytes_of_each, joined, total, field_at}
use Rattle.wire.specs.Signed.{twos_complement, figure_bytes, figures_bytes, written, signed, figure_at}
use Rattle.dossier.specs.Records.{head_bytes, areas_bytes, bytes_if_any, opening_bytes, terms_of, state_of, first_due, next, conversions_bytes, records_bytes, year_bytes, dossier_bytes}
use Rattle.dossier.specs.Plan.{records_for}
use Rattle.dossier.specs.Layouts.{activity_bytes, fresh}
use Rattle.dossier.specs.Reader.{followed, give, mark, stands, upon, if_any, present, begin, field, fields, outside, within, equal, holds, nothing}
use Rattle.dossier.specs.JudgingRecords.{head, stocks_if_any, areas, matrix_under, conversions, in_range, fields_of, activity_mark, activity_under, activity}
use Rattle.dossier.specs.Judging.{opening, another, run, activities, from_the_plan, taken, year_records, year_left, year, end, years, dossier}
use Rattle.dossier.specs.JudgingPlan.{lent_plan, under}
use Rattle.report.specs.Report.{eights, reported}
use Rattle.periods.specs.Periods.{ends_sound, issued_after}
use Rattle.reckoner.specs.Ledger.{new_ledger, opened_ledger, due_of, given_year, given_years, ledger_of, report}
use Rattle.reckoner.specs.Calls.{periods_answer, periods_buffer, dossier_call, reckon_buffer}
use Rattle.std.specs.Fmt.{digits}
use Rattle.sheet.specs.Sheet.{header, spaced, year_line, year_lines, named, total_line, sheet_of}
use Rattle.printout.specs.Printout.{printout}
use Rattle.promises.specs.Examples.{case_a, buffer_a, three_units, Example, examples}

pub examples_hold : map (λ (e : Example). e.given) examples ≡ map (λ (e : Example). e.stated) examples
unfolding examples case_a buffer_a three_units
    -- its bytes, and their judgement
    bytes bytes_of_each joined head_bytes areas_bytes bytes_if_any opening_bytes conversions_bytes activity_bytes year_bytes dossier_bytes
    number numbers total followed give mark stands upon if_any present begin field fields outside within equal nothing
    head stocks_if_any areas matrix_under conversions in_range fields_of activity_mark activity_under activity fresh
    opening another run activities from_the_plan taken year_records year_left year end years dossier lent_plan under holds records_for records_bytes
    -- classes, projection, activity records, figures
    sum listed ceil_div carbon_stocks deforestation_probabilities emission_factor option_one option_one_matrix days_in_year
    projected_carbon next_area next_areas lost_area opened_region projected_region numerator denominator activity_grams activity_emissions
    reference_level monitored_carbon counted_factor stock_change_emissions displaced_emissions reduction_of credited_of tonnes_of figures_of
    region_reference table_emissions year_figures after_figures after_year
    -- the ledger, its report and the bytes written
    terms_of state_of first_due next new_ledger opened_ledger due_of given_year given_years ledger_of dossier_call
    report reported eights twos_complement figure_bytes figures_bytes written ends_sound issued_after periods_answer periods_buffer reckon_buffer
    -- read back, and printed
    field_at signed figure_at digits header spaced year_line year_lines named total_line sheet_of printout
examples_hold = refl

-- the unrounded total of case A is 1,196,360,888 ÷ 3
unrounded_a : Fraction
unrounded_a = (fraction_after_years (terms_of case_a.opening) case_a.years (fraction_opened (state_of case_a.opening))).total

unrounded_a_lem : unrounded_a.num *ℤ pos 3 ≡ pos 1_196_360_888 *ℤ pos unrounded_a.den
unfolding unrounded_a case_a terms_of state_of opened_region
    sum listed carbon_stocks deforestation_probabilities emission_factor option_one option_one_matrix days_in_year
    monitored_carbon counted_factor numerator denominator
    fraction_sum whole ◌+ᶠ◌ ◌-ᶠ◌ fraction_neg ◌×ᶠ◌ ◌÷ᶠ◌by◌ if_positive
    fraction_opened fraction_flow fraction_carbon fraction_reference fraction_emissions fraction_activity fraction_displaced fraction_reduction fraction_credited fraction_after_year fraction_after_years
unrounded_a_lem = refl
