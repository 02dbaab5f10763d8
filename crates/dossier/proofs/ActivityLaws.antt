-- The table of activity records: each row is right, the mark tells the row, and what is accepted is exactly the bytes of an activity record in range.
-- Assumes nothing.
use Rattle.std.proofs.Common.{ℕ, ◌+◌, ◌*◌, ◌≤◌, ◌≡◌, refl, ◌∙◌, ap, sym, Bool, true, false, cond, List, [], ◌∷◌, ◌++◌, append_assoc}
use Rattle.std.proofs.Common.{arith, eqb-true, eqb, lit<, length, take, drop, length-append, length-drop}
use Rattle.activity.specs.Records.{Activity}
use Rattle.activity.specs.Records.Activity.{Fuel, Vehicles, Nitrogen, Lime, Residue}
use Rattle.activity.specs.Activity.{ActivityInRange, residue_one}
use Rattle.wire.specs.Bytes.{Bytes, number, bytes, total}
use Rattle.dossier.specs.Layouts.{Layout, fuel, vehicles, nitrogen, lime, residue, layouts, layout_of, activity_bytes}
use Rattle.dossier.specs.Reader.{accepted, refuse, stands, present, field, followed}
use Rattle.dossier.specs.JudgingRecords.{fields_of, row_under, activity_mark, activity_under, activity}
use Rattle.wire.proofs.BytesLaws.{length-bytes, bytes_drop, split, take-bytes, drop-bytes}
use Rattle.dossier.proofs.ReaderLaws.{no, step, present-yes, present-only, stands-bytes}
use Rattle.dossier.proofs.Exact.{Exact}
use Rattle.dossier.proofs.ExactParts.{Any}
use Rattle.dossier.proofs.LayoutLaws.{Numbers, field_bytes, record_of, size_of, Right, row_reads, row_range, row-only, row_took, row-length}

-- ---- any table
abbrev pub AllRight : List Layout → Type 0
AllRight [] = Unit {0}
AllRight (l ∷ rest) = Right l × AllRight rest

-- what is accepted after a mark is accepted by the row that has it
row_under-only : (table : List Layout) → AllRight table → (m : ℕ) (s : List ℕ) {a : Activity} {t : List ℕ} → row_under table m s ≡ accepted a t
    → (l : Layout) × Right l × (m ≡ l.mark) × (fields_of l s ≡ accepted a t)
unfolding refuse
row_under-only [] r m s q = no _ _ _ q
row_under-only (l ∷ rest) r m s {a} {t} q = go (eqb m l.mark) (eqb-true _ _) q (row_under-only rest r.1 m s)
  where
    go : (b : Bool) → (b ≡ true → m ≡ l.mark) → cond b (fields_of l) (row_under rest m) s ≡ accepted a t
        → (row_under rest m s ≡ accepted a t → (k : Layout) × Right k × (m ≡ k.mark) × (fields_of k s ≡ accepted a t))
        → (k : Layout) × Right k × (m ≡ k.mark) × (fields_of k s ≡ accepted a t)
    go true e q ih = (l, r.0, e refl, q)
    go false e q ih = ih q

-- ---- this table
fuel-right : Right fuel
unfolding activity_bytes total
fuel-right = record { small = lit< tt; fit = λ xs p. omega arith; own = λ xs. refl; bytes = λ xs. refl }

vehicles-right : Right vehicles
unfolding activity_bytes total
vehicles-right = record { small = lit< tt; fit = λ xs p. omega arith; own = λ xs. refl; bytes = λ xs. refl }

nitrogen-right : Right nitrogen
unfolding activity_bytes total
nitrogen-right = record { small = lit< tt; fit = λ xs p. omega arith; own = λ xs. refl; bytes = λ xs. refl }

lime-right : Right lime
unfolding activity_bytes total
lime-right = record { small = lit< tt; fit = λ xs p. omega arith; own = λ xs. refl; bytes = λ xs. refl }

residue-right : Right residue
unfolding activity_bytes total
residue-right = record { small = lit< tt; fit = λ xs p. omega arith; own = λ xs. refl; bytes = λ xs. refl }

pub all_right : AllRight layouts
all_right = (fuel-right, (vehicles-right, (nitrogen-right, (lime-right, (residue-right, tt)))))

-- the row of a record, which its mark tells, and its numbers
record Placed (a : Activity) : Type 0 where
  row : Layout
  right : Right row
  numbers : Numbers row.widths
  made : record_of row.widths row.made numbers ≡ a
  told : activity_under row.mark ≡ fields_of row
  due : activity_mark row.mark ≡ true

placed : (l : Layout) → Right l → activity_under l.mark ≡ fields_of l → activity_mark l.mark ≡ true → (xs : Numbers l.widths) → Placed (record_of l.widths l.made xs)
placed l r u d xs = record { row = l; right = r; numbers = xs; made = refl; told = u; due = d }

place : (a : Activity) → Placed a
unfolding activity_mark activity_under
place (Fuel kind grams) = placed fuel fuel-right refl refl (kind, (grams, tt))
place (Vehicles kind count average rate) = placed vehicles vehicles-right refl refl (kind, (count, (average, (rate, tt))))
place (Nitrogen source crop grams content) = placed nitrogen nitrogen-right refl refl (source, (crop, (grams, (content, tt))))
place (Lime material grams) = placed lime lime-right refl refl (material, (grams, tt))
place (Residue r) =
    placed residue residue-right refl refl
    (r.crop, (r.area, (r.harvest, (r.renewed, (r.above.ratio, (r.below.ratio, (r.above.content, (r.below.content, tt))))))))

-- its bytes: its row's mark, and its fields
module _ (a : Activity) (t : List ℕ) where
  after-mark : List ℕ
  after-mark = let k = place a in field_bytes k.row.widths k.numbers ++ t

  marked : activity_bytes a ++ t ≡ bytes 2 (place a).row.mark ++ after-mark
  unfolding after-mark
  marked = let k = place a in ap (λ (x : Activity). activity_bytes x ++ t) (sym k.made) ∙ rw (k.right.bytes k.numbers, append_assoc)

  pub begins_with : (kind : ℕ → Bool) → stands kind (activity_bytes a ++ t) ≡ kind (layout_of a).mark
  begins_with kind = grind (arith, marked, stands-bytes, after-mark)

  pub begins_activity : stands activity_mark (activity_bytes a ++ t) ≡ true
  begins_activity = let k = place a in rw (marked, stands-bytes activity_mark k.row.mark after-mark k.right.small) k.due

pub activity-length : (a : Activity) → length (activity_bytes a) ≡ size_of a
activity-length a = let k = place a in rw (← k.made) (row-length k.row k.right k.numbers)

-- the longest record has 15 bytes, or is CR and has 21
pub size_most : (a : Activity) → size_of a ≤ 15 + 6 * residue_one a
unfolding total
size_most a = grind arith

-- bytes long enough for a mark
pub activity-is : (s : List ℕ) → 2 ≤ length s → activity s ≡ activity_under (number (take 2 s)) (drop 2 s)
unfolding activity field followed
activity-is s h = rw (present-yes 2 s h)

pub activity-long : (s : List ℕ) {a : Activity} {t : List ℕ} → activity s ≡ accepted a t → 2 ≤ length s
unfolding activity followed
activity-long s q = (present-only 2 s (step (present 2 s) _ q).2).0

under-row : (m : ℕ) (s : List ℕ) {a : Activity} {t : List ℕ} → activity_under m s ≡ accepted a t → (l : Layout) × Right l × (m ≡ l.mark) × (fields_of l s ≡ accepted a t)
unfolding activity_under
under-row m s q = row_under-only layouts all_right m s q

-- the mark is that of the record, and its bytes were taken
pub under-mark : (m : ℕ) (s : List ℕ) {a : Activity} {t : List ℕ} → activity_under m s ≡ accepted a t → m ≡ (layout_of a).mark
under-mark m s q = let (l, r, e, k) = under-row m s q in e ∙ ap (λ (l : Layout). l.mark) (sym (row_took l r s k).0)

pub activity_took : (s : List ℕ) {a : Activity} {t : List ℕ} → activity s ≡ accepted a t → length s ≡ size_of a + length t
activity_took s q =
    let h = activity-long s q in
    let (l, r, e, k) = under-row _ _ (sym (activity-is s h) ∙ q) in
    grind (arith, row_took l r (drop 2 s) k, length-drop {A = ℕ})

pub under_range : (m : ℕ) (s : List ℕ) {a : Activity} {t : List ℕ} → activity_under m s ≡ accepted a t → ActivityInRange a
under_range m s q = let k = under-row m s q in row_range k.0 s k.3

pub activity_exact : Exact 0 Any activity activity_bytes (λ (a : Activity) (t : List ℕ). ActivityInRange a)
activity_exact = record {
  reads = λ a t c p. reads a t p;
  only = λ s bs h a t q. let k = only s bs q in (tt, k.0, k.1);
}
  where
    reads : (a : Activity) (t : List ℕ) → ActivityInRange a → activity (activity_bytes a ++ t) ≡ accepted a t
    reads a t p =
        let k = place a in
        let h : 2 ≤ length (bytes 2 k.row.mark ++ after-mark a t) = simp (length-append, length-bytes) (omega arith) in
        let i : ActivityInRange (record_of k.row.widths k.row.made k.numbers) = rw k.made p in
        rw (marked a t, activity-is _ h, take-bytes 2 k.row.mark (after-mark a t) k.right.small, drop-bytes, k.told)
        (unfold after-mark in row_reads k.row k.right k.numbers t i ∙ ap (λ (x : Activity). accepted x t) k.made)

    only : (s : List ℕ) → Bytes s → {a : Activity} {t : List ℕ} → activity s ≡ accepted a t → ActivityInRange a × (s ≡ activity_bytes a ++ t)
    only s bs q =
        let h = activity-long s q in
        let k = under-row _ _ (sym (activity-is s h) ∙ q) in
        (row_range k.0 _ k.3, split 2 s bs h ∙ rw k.2 (row-only k.0 k.1 (drop 2 s) (bytes_drop 2 s bs) k.3))
