-- The years and EN, the dossier, and the pieces: what is accepted is exactly the encoding of records in range.
-- Assumes nothing.
use Rattle.std.proofs.Common.{ℕ, zero, suc, ◌+◌, ◌≤◌, ◌≡◌, refl, ◌∙◌, ap, sym, List, [], ◌∷◌, ◌++◌, map, append_assoc, append-nil, arith, lit<, length, length-append}
use mathlib.Core.Option.{Option}
use Rattle.classes.specs.Classes.{greatest_area}
use Rattle.figures.specs.Year.{Year}
use Rattle.figures.specs.Reckoning.{after_figures, after_year}
use Rattle.wire.specs.Bytes.{Bytes, bytes, joined}
use Rattle.dossier.specs.Marks.{mark_yr, mark_pl, mark_en}
use Rattle.dossier.specs.Plan.{Plan, PlanLent}
use Rattle.dossier.specs.Records.{Opening, OpeningInRange, opening_bytes, terms_of, state_of, Due, first_due, next, YearInRange, year_bytes, YearsInRange, Dossier, DossierInRange, dossier_bytes}
use Rattle.dossier.specs.Claims.{DueInRange}
use Rattle.dossier.specs.Reader.{accepted, give, is, upon, followed}
use Rattle.dossier.specs.JudgingRecords.{activity_mark}
use Rattle.dossier.specs.Judging.{year, end, years, dossier, opening_piece, year_piece}
use Rattle.wire.proofs.BytesLaws.{bytes_after, length-bytes, take-bytes}
use Rattle.dossier.proofs.ReaderLaws.{step, mark-only, nothing-only}
use Rattle.dossier.proofs.Refusals.{end_there}
use Rattle.dossier.proofs.Exact.{Exact}
use Rattle.dossier.proofs.ExactParts.{Any, sub_then, last_then, recoded, piece_exact}
use Rattle.dossier.proofs.OpeningLaws.{opening_exact}
use Rattle.dossier.proofs.TakenLaws.{Beyond, follows, mark_beyond}
use Rattle.dossier.proofs.YearLaws.{YearThen, none_left-only, year_exact, year_begins}

-- ---- EN
end-yes : end (bytes 2 mark_en ++ []) ≡ accepted tt []
end-yes = end_there (bytes 2 mark_en ++ []) (simp (length-append, length-bytes) (omega arith)) (take-bytes 2 mark_en [] (lit< tt)) (simp (length-append, length-bytes) (omega arith))

end-only : (s : List ℕ) → Bytes s → {x : Unit {0}} {t : List ℕ} → end s ≡ accepted x t → (s ≡ bytes 2 mark_en) × (t ≡ [])
unfolding end upon followed
end-only s bs {x} {t} q = grind (arith, none_left-only {A = Unit {0}} s bs, mark-only, nothing-only, append-nil)

-- ---- the years
pub years_bytes : List Year → List ℕ
years_bytes l = joined (map year_bytes l) ++ bytes 2 mark_en

years-cons : (y : Year) (l : List Year) (t : List ℕ) → years_bytes (y ∷ l) ++ t ≡ year_bytes y ++ (years_bytes l ++ t)
unfolding years_bytes joined
years-cons y l t = simp append_assoc

-- the next k years can be said in YR's 16 bits
pub record Room (k : ℕ) (due : Due) : Type 0 where
  pub years : due.state.year + k ≤ 65536
  pub start : due.terms.start.0 ≤ greatest_area
  pub beltstart : due.terms.beltstart.0 ≤ greatest_area
  pub plan : PlanLent due.plan

pub room-due : {k : ℕ} (due : Due) → Room (suc k) due → DueInRange due
room-due due r = record { year = omega arith; start = r.start; beltstart = r.beltstart; plan = r.plan }

pub room_next : {k : ℕ} (y : Year) (due : Due) → Room (suc k) due → Room k (next y due)
unfolding next after_year after_figures
room_next y due r = record { years = omega arith; start = r.start; beltstart = r.beltstart; plan = r.plan }

pub room-opening : (plan : Option Plan) → PlanLent plan → (o : Opening) → OpeningInRange o → (k : ℕ) → k ≤ o.head.years → Room k (first_due plan o)
unfolding first_due terms_of state_of
room-opening plan lent o p k h = grind arith

-- what is due after years
pub due_after : List Year → Due → Due
due_after [] due = due
due_after (y ∷ l) due = due_after l (next y due)

pub room_after : (l : List Year) (k n : ℕ) → n ≡ length l + k → (due : Due) → Room n due → Room k (due_after l due)
unfolding due_after
room_after [] k n e due r = let z : n ≡ k = omega arith in rw z at r
room_after (y ∷ l) k zero e due r = absurd (omega arith)
room_after (y ∷ l) k (suc n) e due r = room_after l k n (omega arith) (next y due) (room_next y due r)

-- after a year stands another, or what follows them: no activity mark and no PL
next_beyond : (l : List Year) (t : List ℕ) → Beyond t → Beyond (joined (map year_bytes l) ++ t)
unfolding joined activity_mark
next_beyond [] t o = o
next_beyond (y ∷ l) t o = let u = joined (map year_bytes l) ++ t in rw append_assoc (year_begins activity_mark y u, year_begins (is mark_pl) y u)

-- nor where EN stands, or YR
pub end_beyond : (t : List ℕ) → Beyond (bytes 2 mark_en ++ t)
unfolding activity_mark
end_beyond t = mark_beyond mark_en t (lit< tt) refl refl

pub year_beyond : (t : List ℕ) → Beyond (bytes 2 mark_yr ++ t)
unfolding activity_mark
year_beyond t = mark_beyond mark_yr t (lit< tt) refl refl

pub years-step : (k : ℕ) (due : Due) (before : List Year) (s : List ℕ) {y : Year} {u : List ℕ} → year due s ≡ accepted y u → years (suc k) due before s ≡ years k (next y due) (before ++ (y ∷ [])) u
unfolding years followed
years-step k due before s e = rw e

-- years in range are read, and the judgement goes on at what follows them
pub years_continue : (l : List Year) (k n : ℕ) → n ≡ length l + k → (due : Due) → Room n due → (before : List Year) (t : List ℕ) → YearsInRange due l → Beyond t
    → years n due before (joined (map year_bytes l) ++ t) ≡ years k (due_after l due) (before ++ l) t
unfolding joined due_after
years_continue [] k n e due r before t p o = grind (arith, append-nil)
years_continue (y ∷ l) k zero e due r before t p o = absurd (omega arith)
years_continue (y ∷ l) k (suc n) e due r before t p o =
    let u = joined (map year_bytes l) ++ t in
    let x = (year_exact due (room-due due r)).reads y u tt (p.0, follows y.planned y.activities u (next_beyond l t o)) in
    grind (arith, append_assoc, years-step, years_continue l k n (omega arith) (next y due) (room_next y due r) (before ++ (y ∷ [])) t p.1 o)

years-reads : (k : ℕ) (due : Due) → Room k due → (before l : List Year) → length l ≡ k → YearsInRange due l → years k due before (years_bytes l ++ []) ≡ accepted (before ++ l) []
unfolding years_bytes
years-reads k due r before l n p =
    rw append_assoc (years_continue l 0 k (omega arith) due r before (bytes 2 mark_en ++ []) p (end_beyond [])
    ∙ unfold years give followed in rw end-yes)

-- more was read after before, then EN, and nothing follows
record ReadYears (k : ℕ) (due : Due) (before : List Year) (s : List ℕ) (all : List Year) (t : List ℕ) : Type 0 where
  more : List Year
  whole : all ≡ before ++ more
  count : length more ≡ k
  each : YearsInRange due more
  over : t ≡ []
  encoded : s ≡ years_bytes more ++ t

years-none : (due : Due) (before : List Year) (s : List ℕ) (all : List Year) (u t : List ℕ) → s ≡ bytes 2 mark_en → u ≡ [] → accepted before u ≡ accepted all t → ReadYears 0 due before s all t
unfolding years_bytes joined
years-none due before s all u t e n q = grind (arith, append-nil)

years-more : (k : ℕ) (due : Due) (before : List Year) (s : List ℕ) (y : Year) (u : List ℕ) (all : List Year) (t : List ℕ) → YearInRange due y → s ≡ year_bytes y ++ u
    → ReadYears k (next y due) (before ++ (y ∷ [])) u all t → ReadYears (suc k) due before s all t
years-more k due before s y u all t p e r = grind (arith, append_assoc, years-cons)

years-only : (k : ℕ) (due : Due) → Room k due → (before : List Year) (s : List ℕ) → Bytes s → (all : List Year) (t : List ℕ) → years k due before s ≡ accepted all t
    → ReadYears k due before s all t
unfolding years give followed
years-only zero due r before s bs all t q = grind (arith, end-only, years-none due before s)
years-only (suc k) due r before s bs all t q =
    let (y, u, e, f) = step (year due s) (λ y. years k (next y due) (before ++ (y ∷ []))) q in
    let x = (year_exact due (room-due due r)).only s bs (omega arith) y u e in
    years-more k due before s y u all t x.1.0 x.2 (years-only k (next y due) (room_next y due r) (before ++ (y ∷ [])) u (bytes_after (year_bytes y) u (rw x.2 at bs)) all t f)

-- n years in range, EN, and nothing after it
abbrev pub YearsThen : ℕ → Due → List Year → List ℕ → Type 0
YearsThen n due l t = (length l ≡ n) × YearsInRange due l × (t ≡ [])

years_exact : (n : ℕ) (due : Due) → Room n due → Exact 0 Any (years n due []) years_bytes (YearsThen n due)
years_exact n due r = record {
  reads = λ l t c p. grind (arith, years-reads);
  only = λ s bs h l t q. let g = years-only n due r [] s bs l t q in grind arith;
}

-- ---- the dossier
pub dossier_exact : (plan : Option Plan) → PlanLent plan → Exact 0 Any (dossier plan) dossier_bytes (λ (d : Dossier) (t : List ℕ). DossierInRange plan d × (t ≡ []))
unfolding dossier dossier_bytes years_bytes joined
dossier_exact plan lent =
    recoded (λ d c. simp append_assoc)
    (sub_then (λ (d : Dossier). d.opening) opening_exact (λ d t c p. p.0.opening) (λ o u or.
    last_then (λ (d : Dossier). d.years) (λ l. record { opening = o; years = l }) (years_exact _ (first_due plan o) (room-opening plan lent o or _ (omega arith)))
    (λ d t c p. let e = ap (λ (o : Opening). o.head.years) c.1 in ((omega (arith, p.0.count), rw c.1 at p.0.years, p.1), sym (λ i. record { opening = c.1 i; years = d.years })))
    (λ l t k. ((tt, refl), (record { opening = or; count = omega (arith, k.0); years = k.1 }, k.2), refl))))

-- ---- the pieces
pub opening_piece_exact : Exact 0 Any opening_piece opening_bytes (λ (o : Opening) (t : List ℕ). OpeningInRange o × (t ≡ []))
unfolding opening_piece
opening_piece_exact = piece_exact opening_exact

pub year_piece_exact : (due : Due) → DueInRange due → Exact 0 Any (year_piece due) year_bytes (λ y t. YearThen due y t × (t ≡ []))
unfolding year_piece
year_piece_exact due h = piece_exact (year_exact due h)
