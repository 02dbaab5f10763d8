-- Any row of the table of activity records: what is accepted after its mark is exactly its records in range.
-- Assumes nothing.
use Rattle.std.proofs.Common.{ℕ, ◌+◌, ◌^◌, ◌<◌, ◌≤◌, ◌≡◌, refl, ◌∙◌, ap, List, [], ◌∷◌, ◌++◌, append_assoc, arith, length, take, drop, length-append, length-drop, drop-drop}
use Rattle.activity.specs.Records.{Activity}
use Rattle.activity.specs.Activity.{Range, ranges, InRanges, ActivityInRange}
use Rattle.wire.specs.Bytes.{Bytes, number, bytes, total}
use Rattle.dossier.specs.Layouts.{Made, Layout, layout_of, in_fields, activity_bytes}
use Rattle.dossier.specs.Reader.{accepted, give, field, followed}
use Rattle.dossier.specs.JudgingRecords.{in_range, made_from, fields_of}
use Rattle.wire.proofs.BytesLaws.{length-bytes, bytes_drop, split, take-bytes, drop-bytes}
use Rattle.dossier.proofs.ReaderLaws.{present-yes, present-only, within-yes, within-only}

-- a number for each field
abbrev pub Numbers : List ℕ → Type 0
Numbers [] = Unit {0}
Numbers (w ∷ widths) = ℕ × Numbers widths

abbrev pub field_bytes : (widths : List ℕ) → Numbers widths → List ℕ
field_bytes widths xs = in_fields widths (listed widths xs)
  where
    listed : (widths : List ℕ) → Numbers widths → List ℕ
    listed [] xs = []
    listed (w ∷ widths) xs = xs.0 ∷ listed widths xs.1

-- the record that they make
abbrev pub record_of : (widths : List ℕ) → Made widths → Numbers widths → Activity
record_of [] a xs = a
record_of (w ∷ widths) made xs = record_of widths (made xs.0) xs.1

-- each number fits its field
abbrev pub Fit : (widths : List ℕ) → Numbers widths → Type 0
Fit [] xs = Unit {0}
Fit (w ∷ widths) xs = (xs.0 < 256 ^ w) × Fit widths xs.1

-- how many bytes a record has
abbrev pub size_of : Activity → ℕ
size_of a = 2 + total (layout_of a).widths

-- what a row has to have: its mark is one of two bytes, its records are its own, their numbers fit its fields, and these are their bytes
pub record Right (l : Layout) : Type 0 where
  pub small : l.mark < 65536
  pub fit : (xs : Numbers l.widths) → ActivityInRange (record_of l.widths l.made xs) → Fit l.widths xs
  pub own : (xs : Numbers l.widths) → layout_of (record_of l.widths l.made xs) ≡ l
  pub bytes : (xs : Numbers l.widths) → activity_bytes (record_of l.widths l.made xs) ≡ bytes 2 l.mark ++ field_bytes l.widths xs

-- ---- the ranges
in_range-reads : (rs : List Range) (a : Activity) (t : List ℕ) → InRanges rs → in_range rs a t ≡ accepted a t
unfolding in_range give followed
in_range-reads [] a t p = refl
in_range-reads (r ∷ rest) a t p = rw (within-yes 8 r.low r.number r.high t p.0) (in_range-reads rest a t p.1)

in_range-only : (rs : List Range) (b : Activity) (s : List ℕ) {a : Activity} {t : List ℕ} → in_range rs b s ≡ accepted a t → InRanges rs × (b ≡ a) × (s ≡ t)
unfolding in_range give followed
in_range-only [] b s q = grind arith
in_range-only (r ∷ rest) b s q = grind (arith, within-only, in_range-only rest b)

-- ---- the fields
-- the numbers that stand in them
numbers_at : (widths : List ℕ) → List ℕ → Numbers widths
numbers_at [] s = tt
numbers_at (w ∷ widths) s = (number (take w s), numbers_at widths (drop w s))

numbers_at-fields : (widths : List ℕ) (xs : Numbers widths) (t : List ℕ) → Fit widths xs → numbers_at widths (field_bytes widths xs ++ t) ≡ xs
unfolding numbers_at
numbers_at-fields [] xs t f = refl
numbers_at-fields (w ∷ widths) xs t f =
    rw (append_assoc, take-bytes w xs.0 (field_bytes widths xs.1 ++ t) f.0, drop-bytes, numbers_at-fields widths xs.1 t f.1) refl

drop-fields : (widths : List ℕ) (xs : Numbers widths) (t : List ℕ) → drop (total widths) (field_bytes widths xs ++ t) ≡ t
unfolding total
drop-fields [] xs t = refl
drop-fields (w ∷ widths) xs t = rw (← drop-drop (total widths) w, append_assoc, drop-bytes) (drop-fields widths xs.1 t)

fields-numbers_at : (widths : List ℕ) (s : List ℕ) → Bytes s → total widths ≤ length s → s ≡ field_bytes widths (numbers_at widths s) ++ drop (total widths) s
unfolding numbers_at total
fields-numbers_at [] s bs h = refl
fields-numbers_at (w ∷ widths) s bs h =
    let i = fields-numbers_at widths (drop w s) (bytes_drop w s bs) (simp length-drop (omega arith)) in
    split w s bs (omega arith) ∙ ap (λ (l : List ℕ). bytes w (number (take w s)) ++ l) i ∙ rw (drop-drop, append_assoc)

length_fields : (widths : List ℕ) (xs : Numbers widths) → length (field_bytes widths xs) ≡ total widths
unfolding total
length_fields [] xs = refl
length_fields (w ∷ widths) xs = rw (length-append, length-bytes, length_fields widths xs.1)

-- the record that is made of them, and its ranges
made-is : (widths : List ℕ) (made : Made widths) (s : List ℕ)
    → let a = record_of widths made (numbers_at widths s) in made_from widths made s ≡ in_range (ranges a) a (drop (total widths) s)
unfolding numbers_at total field followed
made-is [] a s = refl
made-is (w ∷ widths) made s = rw (← drop-drop (total widths) w s) (made-is widths (made (number (take w s))) (drop w s))

-- ---- the row
module _ (l : Layout) where
  pub row_reads : Right l → (xs : Numbers l.widths) (t : List ℕ) → ActivityInRange (record_of l.widths l.made xs)
      → fields_of l (field_bytes l.widths xs ++ t) ≡ accepted (record_of l.widths l.made xs) t
  unfolding fields_of followed
  row_reads r xs t p = grind (arith, length-append, length_fields, present-yes, made-is, numbers_at-fields, drop-fields, in_range-reads)

  -- an accepted record is in range, and made of the numbers that stand there
  record Accepted (s : List ℕ) (a : Activity) (t : List ℕ) : Type 0 where
    range : ActivityInRange a
    long : total l.widths ≤ length s
    made : record_of l.widths l.made (numbers_at l.widths s) ≡ a
    left : drop (total l.widths) s ≡ t

  row-accepted : (s : List ℕ) {a : Activity} {t : List ℕ} → fields_of l s ≡ accepted a t → Accepted s a t
  unfolding fields_of followed
  row-accepted s {a} {t} q = grind (arith, present-only, in_range-only, made-is)

  pub row_range : (s : List ℕ) {a : Activity} {t : List ℕ} → fields_of l s ≡ accepted a t → ActivityInRange a
  row_range s q = (row-accepted s q).range

  pub row-only : Right l → (s : List ℕ) → Bytes s → {a : Activity} {t : List ℕ} → fields_of l s ≡ accepted a t → bytes 2 l.mark ++ s ≡ activity_bytes a ++ t
  row-only r s bs q = grind (arith, row-accepted, fields-numbers_at, append_assoc)

  -- its record is the row's own, and its fields were taken
  pub row_took : Right l → (s : List ℕ) {a : Activity} {t : List ℕ} → fields_of l s ≡ accepted a t → (layout_of a ≡ l) × (length s ≡ total l.widths + length t)
  row_took r s q = grind (arith, row-accepted, length-drop {A = ℕ})

  pub row-length : Right l → (xs : Numbers l.widths) → let a = record_of l.widths l.made xs in length (activity_bytes a) ≡ size_of a
  row-length r xs = rw (r.bytes xs, r.own xs, length-append, length-bytes, length_fields l.widths xs)
