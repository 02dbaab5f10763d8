-- A list of calls: the ledger after it is the first one given its accepted years, and so after the calls that stand.
-- Assumes nothing.
use Rattle.std.proofs.Common.{◌≡◌, ℕ, zero, suc, ◌<◌, ◌↔◌, List, [], ◌∷◌, length, take, refl, ap, arith}
use mathlib.Core.Option.{Option}
use Rattle.figures.specs.Year.{Year}
use Rattle.dossier.specs.Causes.{plan_not_of_form, year_causes}
use Rattle.wire.specs.Bytes.{Bytes}
use Rattle.dossier.specs.Plan.{Plan, PlanLent}
use Rattle.dossier.specs.Records.{YearInRange}
use Rattle.dossier.specs.Reader.{Judged, refused, accepted}
use Rattle.dossier.specs.Judging.{year_piece}
use Rattle.dossier.specs.JudgingPlan.{under}
use Rattle.dossier.proofs.ReaderLaws.{no, was}
use Rattle.dossier.proofs.CauseLaws.{positive}
use Rattle.dossier.proofs.UnderLaws.{under-either, year_piece-under-causes}
use Rattle.dossier.proofs.WellFormed.{year-accepted}
use Rattle.reckoner.specs.Ledger.{Ledger, due_of, given_year, given_years}
use Rattle.reckoner.specs.Calls.{answer_number, year_call, close_call, HandedBack, given}
use Rattle.reckoner.proofs.Invariant.{LedgerKept, due-kept, given-kept, YearsTaken}
use Rattle.promises.specs.CallList.{Call, giving, closing, called, after_call, after_calls, LentBytes, brought_year, accepted_years, standing_call, standing_calls}

-- every ledger of the list is one that these calls handed back
pub calls-handed : (calls : List Call) (l : Ledger) → LentBytes calls → HandedBack l → HandedBack (after_calls calls l)
unfolding after_calls after_call called close_call
calls-handed [] l b h = h
calls-handed (giving piece plan ∷ calls) l b h = calls-handed calls _ b.1 (given h piece plan b.0.0 b.0.1)
calls-handed (closing buffer ∷ calls) l b h = calls-handed calls l b h

-- what a year call's piece is judged to be, under its plan
abbrev pub judged_as : (piece plan : List ℕ) → Ledger → Judged Year
judged_as piece plan l = under plan (λ p. year_piece (due_of p l)) piece

-- no refusal has the number 0
never-zero : (piece plan : List ℕ) (l : Ledger) (n : ℕ) → judged_as piece plan l ≡ refused n → 0 < n
never-zero piece plan l n e = positive (plan_not_of_form ∷ year_causes) tt n (year_piece-under-causes (λ p. due_of p l) plan piece n e)

-- a year is brought exactly where its call answers 0
pub brought_when : (l : Ledger) (piece plan : List ℕ) → (answer_number (called (giving piece plan) l).answer ≡ 0) ↔ (length (brought_year (giving piece plan) l) ≡ 1)
unfolding called year_call brought_year
brought_when l piece plan = grind (arith, never-zero piece plan l)

-- ---- by the verdict on a call
-- what a call does, by the verdict on it: a year that is brought is given and stands; otherwise the ledger stays and nothing stands
pub data Verdict (c : Call) (l : Ledger) : Type 0 where
  brings : (y : Year) → ((p : Option Plan) × PlanLent p × YearInRange (due_of p l) y) → brought_year c l ≡ y ∷ [] → after_call c l ≡ given_year y l
      → standing_call c (called c l).answer ≡ c ∷ [] → Verdict c l
  nothing : brought_year c l ≡ [] → after_call c l ≡ l → standing_call c (called c l).answer ≡ [] → Verdict c l

-- an accepted year call brings its year, gives it, and stands
pub record Taken (piece plan : List ℕ) (l : Ledger) (y : Year) : Type 0 where
  pub brought : brought_year (giving piece plan) l ≡ y ∷ []
  pub after : after_call (giving piece plan) l ≡ given_year y l
  pub stand : standing_call (giving piece plan) (called (giving piece plan) l).answer ≡ giving piece plan ∷ []

pub taken : (piece plan : List ℕ) (l : Ledger) (y : Year) (rest : List ℕ) → judged_as piece plan l ≡ accepted y rest → Taken piece plan l y
unfolding brought_year after_call called year_call
taken piece plan l y rest e = grind arith

-- an accepted year is in range, under the plan that its call was lent
in_range_lem : (piece plan : List ℕ) (l : Ledger) → LedgerKept l → Bytes piece → Bytes plan → (y : Year) (rest : List ℕ) → judged_as piece plan l ≡ accepted y rest
    → (p : Option Plan) × PlanLent p × YearInRange (due_of p l) y
in_range_lem piece plan l k b bp =
    under-either (λ p. year_piece (due_of p l)) piece plan (λ j. (y : Year) (rest : List ℕ) → j ≡ accepted y rest → (p : Option Plan) × PlanLent p × YearInRange (due_of p l) y) bp
    (λ n y rest e. no _ _ _ e)
    (λ p lent a u f y rest e. let w = (year-accepted (due_of p l) (due-kept p lent l k)).sound piece b a u f in (p, lent, rw (was e).0 at w.0))

giving_verdict : (piece plan : List ℕ) (l : Ledger) (j : Judged Year) → judged_as piece plan l ≡ j
    → ((y : Year) (rest : List ℕ) → j ≡ accepted y rest → (p : Option Plan) × PlanLent p × YearInRange (due_of p l) y) → Verdict (giving piece plan) l
unfolding brought_year after_call called year_call
giving_verdict piece plan l (refused n) e h = let some = never-zero piece plan l n e in nothing (grind arith) (grind arith) (grind arith)
giving_verdict piece plan l (accepted y rest) e h =
    let t = taken piece plan l y rest e in
    brings y (h y rest refl) t.brought t.after t.stand

pub verdict : (c : Call) (calls : List Call) (l : Ledger) → LedgerKept l → LentBytes (c ∷ calls) → Verdict c l
verdict (giving piece plan) calls l k b = giving_verdict piece plan l (judged_as piece plan l) refl (in_range_lem piece plan l k b.0.0 b.0.1)
verdict (closing buffer) calls l k b = unfold brought_year after_call called close_call in nothing refl refl refl

pub lent-rest : (c : Call) (calls : List Call) → LentBytes (c ∷ calls) → LentBytes calls
lent-rest (giving piece plan) calls b = b.1
lent-rest (closing buffer) calls b = b

-- ---- the list: its accepted years are in range one after the other, the ledger after it is given them, and as many calls stand
pub record Gives (calls : List Call) (l : Ledger) : Type 0 where
  pub in_range : YearsTaken l (accepted_years calls l)
  pub ledger : after_calls calls l ≡ given_years (accepted_years calls l) l
  pub number : length (standing_calls calls l) ≡ length (accepted_years calls l)

year-taken : (l : Ledger) → LedgerKept l → (y : Year) → (p : Option Plan) × PlanLent p × YearInRange (due_of p l) y → LedgerKept (given_year y l)
year-taken l k y (p, lent, h) = given-kept p lent l k y h

gives_one : (c : Call) (calls : List Call) (l : Ledger) → LedgerKept l → Verdict c l → ((m : Ledger) → LedgerKept m → Gives calls m) → Gives (c ∷ calls) l
unfolding accepted_years after_calls standing_calls given_years
gives_one c calls l k (nothing e f g) ih =
    let i = ih l k in
    record { in_range = rw (e, f) i.in_range; ledger = rw (e, f) i.ledger; number = rw (g, e, f) i.number }
gives_one c calls l k (brings y h e f g) ih =
    let i = ih (given_year y l) (year-taken l k y h) in
    record { in_range = rw (e, f) (h, i.in_range); ledger = rw (e, f) i.ledger; number = rw (g, e, f) (ap suc i.number) }

pub gives : (calls : List Call) (l : Ledger) → LedgerKept l → LentBytes calls → Gives calls l
gives [] l k b = unfold accepted_years after_calls standing_calls given_years in record { in_range = tt; ledger = refl; number = refl }
gives (c ∷ calls) l k b = gives_one c calls l k (verdict c calls l k b) (λ m n. gives calls m n (lent-rest c calls b))

-- ---- the first y calls that stand bring the first y years
pub record Stands (calls : List Call) (l : Ledger) (y : ℕ) : Type 0 where
  pub lent : LentBytes (take y (standing_calls calls l))
  pub years : accepted_years (take y (standing_calls calls l)) l ≡ take y (accepted_years calls l)

lent_one : (c : Call) (rest more : List Call) → LentBytes (c ∷ rest) → LentBytes more → LentBytes (c ∷ more)
lent_one (giving piece plan) rest more b m = (b.0, m)
lent_one (closing buffer) rest more b m = m

stands_one : (c : Call) (calls : List Call) (l : Ledger) → LedgerKept l → LentBytes (c ∷ calls) → Verdict c l
    → ((m : Ledger) → LedgerKept m → (y : ℕ) → Stands calls m y) → (y : ℕ) → Stands (c ∷ calls) l y
unfolding standing_calls accepted_years
stands_one c calls l k b (nothing e f g) ih y = let i = ih l k y in record { lent = rw (g, f) i.lent; years = rw (g, e, f) i.years }
stands_one c calls l k b (brings x h e f g) ih zero = record { lent = tt; years = refl }
stands_one c calls l k b (brings x h e f g) ih (suc y) =
    let i = ih (given_year x l) (year-taken l k x h) y in
    record {
      lent = rw (g, f) (lent_one c calls (take y (standing_calls calls (given_year x l))) b i.lent);
      years = rw (g, e, f) (ap (λ (ys : List Year). x ∷ ys) i.years);
    }

pub stands : (calls : List Call) (l : Ledger) → LedgerKept l → LentBytes calls → (y : ℕ) → Stands calls l y
stands [] l k b zero = unfold standing_calls accepted_years in record { lent = tt; years = refl }
stands [] l k b (suc y) = unfold standing_calls accepted_years in record { lent = tt; years = refl }
stands (c ∷ calls) l k b y = stands_one c calls l k b (verdict c calls l k b) (λ m n z. stands calls m n (lent-rest c calls b) z) y

-- as many calls stand as years are accepted
count_one : (c : Call) (calls : List Call) (l : Ledger) → LedgerKept l → Verdict c l → ((m : Ledger) → LedgerKept m → length (standing_calls calls m) ≡ length (accepted_years calls m))
    → length (standing_calls (c ∷ calls) l) ≡ length (accepted_years (c ∷ calls) l)
unfolding standing_calls accepted_years
count_one c calls l k (nothing e f g) ih = rw (g, e, f) (ih l k)
count_one c calls l k (brings x h e f g) ih = rw (g, e, f) (ap suc (ih (given_year x l) (year-taken l k x h)))

pub standing-count : (calls : List Call) (l : Ledger) → LedgerKept l → LentBytes calls → length (standing_calls calls l) ≡ length (accepted_years calls l)
standing-count [] l k b = unfold standing_calls accepted_years in refl
standing-count (c ∷ calls) l k b = count_one c calls l k (verdict c calls l k b) (λ m n. standing-count calls m n (lent-rest c calls b))
