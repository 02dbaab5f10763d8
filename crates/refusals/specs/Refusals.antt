-- The number of each cause (docs/DOSSIER.md has the table), and the cause in words.
-- To be believed. Assumes nothing.
use Rattle.std.specs.Prelude.{ℕ, List, codes}
use Rattle.refusals.specs.declared.Refusal.{Refusal}
use Rattle.refusals.specs.declared.Refusal.TheVariants.{BytesMissing, MarkNotDue, HeadOutOfRange, AreaTotalWrong, RowSumWrong, YearWrong, ConversionTotalWrong, ActivityOutOfRange, TooManyActivities, BufferTooShort, StockOutOfRange, PlanNotOfForm, PlannedYearWrong, RecordRepeated, PeriodEndsWrong}

abbrev pub number_of : Refusal → ℕ
number_of BytesMissing = 1
number_of MarkNotDue = 2
number_of HeadOutOfRange = 3
number_of AreaTotalWrong = 4
number_of RowSumWrong = 5
number_of YearWrong = 6
number_of ConversionTotalWrong = 7
number_of ActivityOutOfRange = 8
number_of TooManyActivities = 9
number_of BufferTooShort = 10
number_of StockOutOfRange = 11
number_of PlanNotOfForm = 12
number_of PlannedYearWrong = 13
number_of RecordRepeated = 14
number_of PeriodEndsWrong = 15

abbrev pub text_of : Refusal → List ℕ
text_of BytesMissing = codes "bytes are missing: a mark or a record is cut"
text_of MarkNotDue = codes "a mark that is not due, or bytes after the end"
text_of HeadOutOfRange = codes "a field of HD is out of range"
text_of AreaTotalWrong = codes "the total of PA or of DA is out of range"
text_of RowSumWrong = codes "a row of MP does not sum to 1,000,000"
text_of YearWrong = codes "a year that is not the next, or its days of operation are wrong"
text_of ConversionTotalWrong = codes "CP or CD does not sum to the total of PA or of DA"
text_of ActivityOutOfRange = codes "a field of an activity record is out of range"
text_of TooManyActivities = codes "more activity records than a year may have"
text_of BufferTooShort = codes "the result buffer is too short"
text_of StockOutOfRange = codes "a field of ST is out of range"
text_of PlanNotOfForm = codes "the plan is not of its form"
text_of PlannedYearWrong = codes "the plan lacks the year, or the year may not be planned"
text_of RecordRepeated = codes "an activity record equals one before it"
text_of PeriodEndsWrong = codes "the list of period ends is wrong"
