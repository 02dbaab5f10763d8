-- The number of each refusal, where document 01 says it ("Causes and numbers", "Calls and sheet", "Slips seen in the old product").
-- Assumes nothing.
use Rattle.std.proofs.Common.{ℕ, ◌-◌, ◌≤◌, ◌<◌, ◌≡◌, refl, ◌∙◌, sym, Bool, cond, List, [], ◌∷◌, ◌++◌, arith, lt-ltb, le-ltb}
use Rattle.std.proofs.Common.{eq-eqb, ne_eqb, ltb, lit<, length, take, drop, length-append, length-drop, drop_of_length-le}
use Rattle.wire.specs.Bytes.{number, bytes}
use Rattle.wire.proofs.BytesLaws.{length-bytes, take-bytes}
use Rattle.dossier.specs.Marks.{mark_yr, mark_en}
use Rattle.figures.specs.Year.{Year}
use Rattle.dossier.specs.Plan.{records_for}
use Rattle.dossier.specs.Records.{Due}
use Rattle.dossier.specs.Reader.{refused, accepted, Reader, after, refuse, mark, is, upon, present, begin, nothing, end_of_piece, followed}
use Rattle.dossier.specs.Judging.{none_left, year_records, year_left, year, end}
use Rattle.dossier.proofs.ReaderLaws.{no, was, bind_no, mark-yes, stands_short, stands_here}

-- "mark, .., bytes missing": 1 where the mark is cut, 2 where it is another, however few bytes follow, 1 where the record is cut
module _ (m n : ℕ) (s : List ℕ) where
  pub begin_short : length s < 2 → begin m n s ≡ refused 1
  unfolding begin mark followed
  begin_short h = simp (lt-ltb _ _ h)

  module _ (long : 2 ≤ length s) where
    pub begin_other : (number (take 2 s) ≡ m → ⊥) → begin m n s ≡ refused 2
    unfolding begin mark followed
    begin_other f = simp (le-ltb _ _ long, ne_eqb _ _ f)

    module _ (e : number (take 2 s) ≡ m) where
      pub begin_cut : length (drop 2 s) < n → begin m n s ≡ refused 1
      unfolding begin mark present followed
      begin_cut l = simp (le-ltb _ _ long, eq-eqb _ _ e, lt-ltb _ _ l)

      pub begin-whole : n ≤ length (drop 2 s) → begin m n s ≡ accepted tt (drop 2 s)
      unfolding begin mark present followed
      begin-whole l = simp (le-ltb _ _ long, eq-eqb _ _ e, le-ltb _ _ l)

-- "YR stays due there and gives 6": 1 where the record is cut, 6 where it is complete, whatever follows it
cut_or : {A : Type 0} (n : ℕ) (b : Bool) (t : List ℕ) → after {B = A} (cond b (refused 1) (accepted (tt {0}) t)) (λ _. refuse n) ≡ refused (cond b 1 n)
unfolding refuse
cut_or n b t = grind arith

pub none_left_lem : {A : Type 0} (t : List ℕ) → none_left {A = A} (bytes 2 mark_yr ++ t) ≡ refused (cond (ltb (length t) 4) 1 6)
unfolding none_left begin present followed
none_left_lem t = rw (mark-yes mark_yr t (lit< tt)) (cut_or _ (ltb (length t) 4) t)

-- a refusal of the records of the year that is due is the year's
abbrev pub left_for : Due → Reader Year
left_for due = year_left (records_for due.plan due.state.year) due.state.year due.state.left due.terms.start.0 due.terms.beltstart.0

pub left-refused : (due : Due) (s : List ℕ) (n : ℕ) → left_for due s ≡ refused n → year due s ≡ refused n
unfolding year
left-refused due s n e = sym (bind_no (left_for due) _ s n (sym e))

pub year-none_left : (due : Due) (t : List ℕ) → due.state.left ≡ 0 → year due (bytes 2 mark_yr ++ t) ≡ refused (cond (ltb (length t) 4) 1 6)
unfolding year_left
year-none_left due t h = left-refused due _ _ (rw (eq-eqb _ _ h) (none_left_lem t))

-- where a year is due: 1 where the bytes end before or inside its mark, 2 for any other mark, so for EN "before n years"
pub year_short : (due : Due) (s : List ℕ) → length s < 2 → year due s ≡ refused 1
unfolding year_left year_records none_left followed
year_short due s h = grind (arith, left-refused, begin_short)

pub year_other : (due : Due) (s : List ℕ) → 2 ≤ length s → (number (take 2 s) ≡ mark_yr → ⊥) → year due s ≡ refused 2
unfolding year_left year_records none_left followed
year_other due s h f = grind (arith, left-refused, begin_other)

-- ---- the ends: where EN is due, 1 where the bytes end before or inside its mark, YR once more, 2 for any other mark, 2 for any byte after EN
module _ (s : List ℕ) where
  pub end_short : length s < 2 → end s ≡ refused 1
  unfolding end upon mark followed
  end_short h = rw (stands_short (is mark_yr) s h) (simp (lt-ltb _ _ h))

  module _ (long : 2 ≤ length s) where
    pub end-again : number (take 2 s) ≡ mark_yr → end s ≡ none_left s
    unfolding end upon
    end-again e = rw (stands_here (is mark_yr) s long, eq-eqb _ _ e)

    pub end_other : (number (take 2 s) ≡ mark_yr → ⊥) → (number (take 2 s) ≡ mark_en → ⊥) → end s ≡ refused 2
    unfolding end upon mark followed
    end_other f g = rw (stands_here (is mark_yr) s long, ne_eqb _ _ f) (simp (le-ltb _ _ long, ne_eqb _ _ g))

    module _ (e : number (take 2 s) ≡ mark_en) where
      end_is : end s ≡ nothing (drop 2 s)
      unfolding end upon mark followed
      end_is = grind (arith, stands_here, eq-eqb)

      pub end_followed : 2 < length s → end s ≡ refused 2
      unfolding nothing
      end_followed h = end_is ∙ simp (length-drop, lt-ltb 0 (length s - 2) (omega arith))

      pub end_there : length s ≤ 2 → end s ≡ accepted tt []
      unfolding nothing
      end_there h = end_is ∙ rw (drop_of_length-le s {i = 2} h)

pub end-none_left : (t : List ℕ) → end (bytes 2 mark_yr ++ t) ≡ refused (cond (ltb (length t) 4) 1 6)
end-none_left t = end-again (bytes 2 mark_yr ++ t) (simp (length-append, length-bytes) (omega arith)) (take-bytes 2 mark_yr t (lit< tt)) ∙ none_left_lem t

-- after a piece a lone byte is 1, more bytes are 2
module _ (s : List ℕ) where
  pub lone_byte : length s ≡ 1 → end_of_piece s ≡ refused 1
  unfolding end_of_piece
  lone_byte h = simp (eq-eqb _ _ h)

  pub beyond_piece : 2 ≤ length s → end_of_piece s ≡ refused 2
  unfolding end_of_piece nothing
  beyond_piece h = simp (ne_eqb (length s) 1 (λ e. omega arith), lt-ltb 0 (length s) (omega arith))

  pub piece_ends : length s ≤ 0 → end_of_piece s ≡ accepted tt s
  unfolding end_of_piece nothing
  piece_ends h = simp (ne_eqb (length s) 1 (λ e. omega arith), le-ltb 0 (length s) h)

pub piece_ends_only : (s : List ℕ) {x : Unit {0}} {t : List ℕ} → end_of_piece s ≡ accepted x t → (s ≡ []) × (t ≡ [])
piece_ends_only [] e = (refl, sym (was (sym (piece_ends [] (omega arith)) ∙ e)).1)
piece_ends_only (b ∷ []) e = no _ _ _ (sym (lone_byte (b ∷ []) refl) ∙ e)
piece_ends_only (b ∷ c ∷ s) e = no _ _ _ (sym (beyond_piece (b ∷ c ∷ s) (omega arith)) ∙ e)
