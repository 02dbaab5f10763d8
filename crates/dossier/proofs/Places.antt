-- The numbers at their place in a dossier: after an opening and k years in range, what follows decides.
-- Assumes nothing.
use Rattle.std.proofs.Common.{ℕ, zero, suc, ◌+◌, ◌-◌, ◌≤◌, ◌<◌, ◌≡◌, refl, ◌∙◌, sym, cond, List, [], ◌∷◌, ◌++◌, map, arith, ltb, lit<, length, take, length-append}
use mathlib.Core.Option.{Option}
use Rattle.figures.specs.Year.{Year}
use Rattle.wire.specs.Bytes.{number, bytes, joined}
use Rattle.dossier.specs.Marks.{mark_yr, mark_pl, mark_en}
use Rattle.dossier.specs.Plan.{Plan, PlanLent}
use Rattle.dossier.specs.Records.{Opening, OpeningInRange, opening_bytes, Due, first_due, YearInRange, year_bytes, YearsInRange}
use Rattle.dossier.specs.Claims.{DueInRange}
use Rattle.dossier.specs.Reader.{refused, accepted, Reader, ◌>>=◌, ◌>>◌, give, is, end_of_piece, followed}
use Rattle.dossier.specs.JudgingRecords.{activity_mark}
use Rattle.dossier.specs.Judging.{opening, year, years, dossier, opening_piece, year_piece}
use Rattle.wire.proofs.BytesLaws.{length-bytes, take-bytes}
use Rattle.dossier.proofs.ReaderLaws.{bind_no}
use Rattle.dossier.proofs.Refusals.{year_short, year_other, end_other, end-none_left, end_followed, lone_byte, beyond_piece}
use Rattle.dossier.proofs.OpeningLaws.{opening_exact}
use Rattle.dossier.proofs.TakenLaws.{Follows, Beyond, follows, short_beyond}
use Rattle.dossier.proofs.YearLaws.{year_exact, year_begins}
use Rattle.dossier.proofs.DossierLaws.{room-due, room-opening, due_after, room_after, end_beyond, year_beyond, years-step, years_continue}

module _ (plan : Option Plan) (lent : PlanLent plan) (o : Opening) (p : OpeningInRange o) (l : List Year) (q : YearsInRange (first_due plan o) l) where
  -- the bytes of the opening and of the years, and t after them
  abbrev so_far : List ℕ → List ℕ
  so_far t = opening_bytes o ++ (joined (map year_bytes l) ++ t)

  abbrev then_due : Due
  then_due = due_after l (first_due plan o)

  dossier_continues : (k : ℕ) → o.head.years ≡ length l + k → (t : List ℕ) → Beyond t → (n : ℕ) → years k then_due l t ≡ refused n → dossier plan (so_far t) ≡ refused n
  unfolding dossier followed
  dossier_continues k e t v n h =
      let after = years_continue l k o.head.years e (first_due plan o) (room-opening plan lent o p _ (omega arith)) [] t q v in
      grind (arith, opening_exact.reads o (joined (map year_bytes l) ++ t) tt p)

  -- fewer than n years are given: the next year's fault is the dossier's
  pub year_fault : length l < o.head.years → (t : List ℕ) → Beyond t → (n : ℕ) → year then_due t ≡ refused n → dossier plan (so_far t) ≡ refused n
  year_fault h t v n e = go (o.head.years - length l) (omega arith) (omega arith)
    where
      go : (k : ℕ) → o.head.years ≡ length l + k → 0 < k → dossier plan (so_far t) ≡ refused n
      go zero d z = absurd (omega arith)
      go (suc k) d z = dossier_continues (suc k) d t v n (unfold years in sym (bind_no (year then_due) _ t n (sym e)))

  -- a year, and after it another mark m than YR and EN: 2
  pub year_then_other : length l < o.head.years → (y : Year) → YearInRange then_due y → (m : ℕ) → m < 65536 → (m ≡ mark_yr → ⊥) → (m ≡ mark_en → ⊥) → (t : List ℕ)
      → Follows y.planned y.activities (bytes 2 m ++ t) → dossier plan (so_far (year_bytes y ++ (bytes 2 m ++ t))) ≡ refused 2
  unfolding activity_mark
  year_then_other h y r m small f g t v = go (o.head.years - length l) (omega arith) (omega arith)
    where
      long : 2 ≤ length (bytes 2 m ++ t)
      long = simp (length-append, length-bytes) (omega arith)

      other : (w : ℕ) → (m ≡ w → ⊥) → number (take 2 (bytes 2 m ++ t)) ≡ w → ⊥
      other w f e = f (sym (take-bytes 2 m t small) ∙ e)

      then_two : (k : ℕ) (due : Due) (before : List Year) → years k due before (bytes 2 m ++ t) ≡ refused 2
      then_two zero due before = unfold years followed in rw (end_other (bytes 2 m ++ t) long (other mark_yr f) (other mark_en g))
      then_two (suc k) due before = unfold years in sym (bind_no (year due) _ (bytes 2 m ++ t) 2 (sym (year_other due (bytes 2 m ++ t) long (other mark_yr f))))

      go : (k : ℕ) → o.head.years ≡ length l + k → 0 < k → dossier plan (so_far (year_bytes y ++ (bytes 2 m ++ t))) ≡ refused 2
      go zero d z = absurd (omega arith)
      go (suc k) d z =
          let room = room_after l (suc k) o.head.years d (first_due plan o) (room-opening plan lent o p _ (omega arith)) in
          let read = (year_exact then_due (room-due then_due room)).reads y (bytes 2 m ++ t) tt (r, v) in
          dossier_continues (suc k) d _ (year_begins activity_mark y (bytes 2 m ++ t), year_begins (is mark_pl) y (bytes 2 m ++ t)) 2
          (years-step k then_due l _ read ∙ then_two k _ _)

  -- "EN is due only after n years": before, it is 2
  pub early_end : length l < o.head.years → (t : List ℕ) → dossier plan (so_far (bytes 2 mark_en ++ t)) ≡ refused 2
  early_end h t =
      let n : number (take 2 (bytes 2 mark_en ++ t)) ≡ mark_en = take-bytes 2 mark_en t (lit< tt) in
      year_fault h _ (end_beyond t) 2
      (year_other then_due _ (simp (length-append, length-bytes) (omega arith)) (λ e. let z : mark_en ≡ mark_yr = sym n ∙ e in omega arith))

  -- the bytes end where a mark is needed
  pub ends_early : length l < o.head.years → (t : List ℕ) → length t < 2 → dossier plan (so_far t) ≡ refused 1
  ends_early h t s = year_fault h t (short_beyond t s) 1 (year_short then_due t s)

  -- n years are given: "YR stays due there and gives 6", or 1 where it is cut
  pub late_year : length l ≡ o.head.years → (t : List ℕ) → dossier plan (so_far (bytes 2 mark_yr ++ t)) ≡ refused (cond (ltb (length t) 4) 1 6)
  late_year h t = dossier_continues 0 (omega arith) _ (year_beyond t) _ (unfold years followed in rw (end-none_left t))

  -- "bytes after EN" are 2
  pub beyond_end : length l ≡ o.head.years → (b : ℕ) (t : List ℕ) → dossier plan (so_far (bytes 2 mark_en ++ (b ∷ t))) ≡ refused 2
  beyond_end h b t =
      dossier_continues 0 (omega arith) _ (end_beyond (b ∷ t)) 2
      (unfold years followed in
      rw (end_followed (bytes 2 mark_en ++ (b ∷ t)) (simp (length-append, length-bytes) (omega arith)) (take-bytes 2 mark_en (b ∷ t) (lit< tt)) (simp (length-append, length-bytes) (omega arith))))

-- ---- after a piece: "a lone byte left over there is 1, any mark beyond the piece 2"
piece_fault : {A : Type 0} (r : Reader A) (s : List ℕ) {a : A} {t : List ℕ} (n : ℕ) → r s ≡ accepted a t → end_of_piece t ≡ refused n → (r >>= λ a. end_of_piece >> give a) s ≡ refused n
unfolding followed
piece_fault r s n e f = rw (e, f)

module _ (o : Opening) (p : OpeningInRange o) where
  pub opening_lone : (b : ℕ) → opening_piece (opening_bytes o ++ (b ∷ [])) ≡ refused 1
  unfolding opening_piece
  opening_lone b = piece_fault opening _ 1 (opening_exact.reads o (b ∷ []) tt p) (lone_byte (b ∷ []) refl)

  pub opening_beyond : (b c : ℕ) (t : List ℕ) → opening_piece (opening_bytes o ++ (b ∷ c ∷ t)) ≡ refused 2
  unfolding opening_piece
  opening_beyond b c t = piece_fault opening _ 2 (opening_exact.reads o (b ∷ c ∷ t) tt p) (beyond_piece (b ∷ c ∷ t) (omega arith))

module _ (due : Due) (h : DueInRange due) (y : Year) (p : YearInRange due y) where
  pub year_lone : (b : ℕ) → year_piece due (year_bytes y ++ (b ∷ [])) ≡ refused 1
  unfolding year_piece
  year_lone b =
      let after-records = follows y.planned y.activities (b ∷ []) (short_beyond (b ∷ []) (omega arith)) in
      piece_fault (year due) _ 1 ((year_exact due h).reads y (b ∷ []) tt (p, after-records)) (lone_byte (b ∷ []) refl)

  -- any mark that may not belong to the year
  pub beyond_year : (b c : ℕ) (t : List ℕ) → Follows y.planned y.activities (b ∷ c ∷ t) → year_piece due (year_bytes y ++ (b ∷ c ∷ t)) ≡ refused 2
  unfolding year_piece
  beyond_year b c t v = piece_fault (year due) _ 2 ((year_exact due h).reads y (b ∷ c ∷ t) tt (p, v)) (beyond_piece (b ∷ c ∷ t) (omega arith))
