-- The number of a refusal right after YR: year, d, and a missing table ("Causes and numbers", "Slips seen in the old product").
-- Assumes nothing.
use Rattle.std.proofs.Common.{ℕ, ◌≤◌, ◌<◌, ◌≡◌, ◌∙◌, List, [], ◌∷◌, ◌++◌, append-nil, arith, ne_eqb, lit<, length, take, length-append}
use Rattle.classes.specs.Calendar.{days_in_year}
use Rattle.activity.specs.Activity.{Within}
use Rattle.wire.specs.Bytes.{number, bytes, joined}
use Rattle.dossier.specs.Marks.{mark_yr, mark_cp}
use Rattle.dossier.specs.Records.{Due}
use Rattle.dossier.specs.Reader.{refused, Reader, ◌>>=◌, ◌>>◌, begin, field, equal, followed}
use Rattle.dossier.specs.JudgingRecords.{conversions}
use Rattle.dossier.specs.Judging.{year_records, year_left, year}
use Rattle.wire.proofs.BytesLaws.{length-bytes, take-bytes, drop-bytes}
use Rattle.dossier.proofs.ReaderLaws.{begin-yes, within-yes, within-above, equal-yes}
use Rattle.dossier.proofs.Refusals.{begin_short, begin_other, left-refused}

abbrev pub year_record : ℕ → ℕ → List ℕ → List ℕ
year_record y days t = joined (bytes 2 mark_yr ∷ bytes 2 y ∷ bytes 2 days ∷ t ∷ [])

pub year-fields : {B : Type 0} (k : ℕ → ℕ → Reader B) (y days : ℕ) (t : List ℕ) → y < 65536 → days < 65536
    → (begin mark_yr 4 >> (field 2 >>= λ v. field 2 >>= λ d. k v d)) (year_record y days t) ≡ k y days t
unfolding joined field followed
year-fields k y days t hy hd =
    let l : 4 ≤ length (bytes 2 y ++ (bytes 2 days ++ t)) = simp (length-append, length-bytes) (omega arith) in
    rw (append-nil, begin-yes mark_yr 4 _ (lit< tt) l, take-bytes 2 y (bytes 2 days ++ t) hy, drop-bytes) (rw (take-bytes 2 days t hd, drop-bytes))

module _ (due : Due) (y days : ℕ) (t : List ℕ) (left : 1 ≤ due.state.left) (hy : y < 65536) (hd : days < 65536) where
  left_some : due.state.left ≡ 0 → ⊥
  left_some z = omega arith

  -- "year not the next"
  pub year_wrong_lem : (y ≡ due.state.year → ⊥) → year due (year_record y days t) ≡ refused 6
  unfolding year_left year_records followed equal
  year_wrong_lem h = left-refused due _ 6 (rw (ne_eqb _ _ left_some) (year-fields _ y days t hy hd ∙ simp (ne_eqb _ _ h)))

  -- "or d wrong": beyond the days of that Gregorian year, as 366 in 2100
  pub days_wrong : y ≡ due.state.year → days_in_year y < days → year due (year_record y days t) ≡ refused 6
  unfolding year_left year_records followed
  days_wrong e h =
      left-refused due _ 6 (rw (ne_eqb _ _ left_some) (year-fields _ y days t hy hd ∙ rw (equal-yes _ _ _ t e, within-above _ _ _ _ t h)))

  year-begun : (n : ℕ) → y ≡ due.state.year → Within 1 days (days_in_year y) → begin mark_cp 1152 t ≡ refused n → year due (year_record y days t) ≡ refused n
  unfolding year_left year_records conversions followed
  year-begun n e d f = left-refused due _ n (rw (ne_eqb _ _ left_some) (year-fields _ y days t hy hd ∙ rw (equal-yes _ _ _ t e, within-yes _ _ _ _ t d, f)))

  -- "Last year's table taken where CP is missing: it is 2, or 1 where the bytes end there"
  pub no_table : y ≡ due.state.year → Within 1 days (days_in_year y) → 2 ≤ length t → (number (take 2 t) ≡ mark_cp → ⊥) → year due (year_record y days t) ≡ refused 2
  no_table e d h f = year-begun 2 e d (begin_other mark_cp 1152 t h f)

  pub no_table_end : y ≡ due.state.year → Within 1 days (days_in_year y) → length t < 2 → year due (year_record y days t) ≡ refused 1
  no_table_end e d h = year-begun 1 e d (begin_short mark_cp 1152 t h)
