-- Document 01, "Causes and numbers": each record judged by itself: "mark, 9, bytes missing, fields" (9 is no matter of one record).
-- To be believed. Assumes nothing.
use Rattle.std.specs.Prelude.{ℕ, zero, suc, Bool, true, false, cond, List, [], ◌∷◌, eqb, get_or}
use Rattle.std.proofs.Math.Option.{Option}
use Rattle.arithmetic.specs.Sum.{sum}
use Rattle.classes.specs.Classes.{classes, class_nf, greatest_area, greatest_stock}
use Rattle.classes.specs.Matrix.{entry, million}
use Rattle.activity.specs.Records.{Activity}
use Rattle.activity.specs.Activity.{Range, ranges}
use Rattle.wire.specs.Bytes.{total}
use Rattle.dossier.specs.Causes.{mark_not_due, head_out_of_range, stock_out_of_range, area_total_wrong, row_sum_wrong, conversion_total_wrong, activity_out_of_range}
use Rattle.dossier.specs.Marks.{mark_hd, mark_st, mark_mp}
use Rattle.dossier.specs.Layouts.{Made, Layout, layouts}
use Rattle.dossier.specs.Records.{Head}
use Rattle.dossier.specs.Reader.{Reader, ◌>>=◌, ◌>>◌, give, refuse, is, stands, if_any, present, begin, field, fields, within, equal}

-- HD: each field in its range
unfoldable pub head : Reader Head
head = do
  begin mark_hd 4
  option ← field 1
  first_year ← field 2
  years ← field 1
  within head_out_of_range 1 option 2
  within head_out_of_range 2000 first_year 2200
  within head_out_of_range 1 years 20
  give (record { option = option; first_year = first_year; years = years })

-- the first k of these tests, one after the other
unfoldable pub each : ℕ → (ℕ → Reader (Unit {0})) → Reader (Unit {0})
each zero test = give tt
each (suc k) test = do
  each k test
  test k

-- ST: each stock in range, and that of NF 0
unfoldable pub stocks : Reader (List ℕ)
stocks = do
  begin mark_st 24
  xs ← fields 12 2
  each classes (λ i. within stock_out_of_range 0 (get_or xs i 0) greatest_stock)
  equal stock_out_of_range (get_or xs class_nf 0) 0
  give xs

-- "optional": ST is read where its mark stands
unfoldable pub stocks_if_any : Reader (Option (List ℕ))
stocks_if_any = if_any (stands (is mark_st)) stocks

-- PA or DA: its total in range
unfoldable pub areas : (mark least : ℕ) → Reader (List ℕ)
areas mark least = do
  begin mark 96
  xs ← fields 12 8
  within area_total_wrong least (total xs) greatest_area
  give xs

-- MP: the sum of each row
unfoldable pub matrix : Reader (List ℕ)
matrix = do
  begin mark_mp 576
  xs ← fields 144 4
  each classes (λ i. equal row_sum_wrong (sum classes (entry xs i)) million)
  give xs

-- MP is due exactly under Option 2
unfoldable pub matrix_under : ℕ → Reader (Option (List ℕ))
matrix_under option = if_any (λ _. eqb option 2) matrix

-- CP or CD: its total the settled one
unfoldable pub conversions : (mark settled_total : ℕ) → Reader (List ℕ)
conversions mark settled_total = do
  begin mark 1152
  xs ← fields 144 8
  equal conversion_total_wrong (total xs) settled_total
  give xs

-- "activity field, or VE product", or that of CR: a record whose numbers are all in range
unfoldable pub in_range : List Range → Activity → Reader Activity
in_range [] a = give a
in_range (r ∷ rest) a = do
  within activity_out_of_range r.low r.number r.high
  in_range rest a

-- the fields of these widths, and the record that their numbers make
abbrev pub made_from : (widths : List ℕ) → Made widths → Reader Activity
made_from [] a = in_range (ranges a) a
made_from (w ∷ widths) made = do
  x ← field w
  made_from widths (made x)

-- a record of one row after its mark: "bytes missing, fields"
unfoldable pub fields_of : Layout → Reader Activity
fields_of l = do
  present (total l.widths)
  made_from l.widths l.made

-- whether m is the mark of one of these rows
abbrev pub mark_of : List Layout → ℕ → Bool
mark_of [] m = false
mark_of (l ∷ rest) m = cond (is l.mark m) true (mark_of rest m)

-- after the mark m, a record of the row that has it
abbrev pub row_under : List Layout → ℕ → Reader Activity
row_under [] m = refuse mark_not_due
row_under (l ∷ rest) m = cond (is l.mark m) (fields_of l) (row_under rest m)

-- the mark of an activity record, and an activity record after its mark
unfoldable pub activity_mark : ℕ → Bool
activity_mark m = mark_of layouts m

unfoldable pub activity_under : ℕ → Reader Activity
activity_under m = row_under layouts m

-- an activity record: its mark may be cut, or none of these
unfoldable pub activity : Reader Activity
activity = do
  present 2
  m ← field 2
  activity_under m
