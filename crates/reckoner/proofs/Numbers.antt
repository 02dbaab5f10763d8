-- The number of the whole reckoning: when it is 0, and which bytes settle it; and which numbers each call can give.
-- Assumes nothing.
use Rattle.std.proofs.Common.{◌≡◌, ℕ, ◌+◌, ◌*◌, ◌≤◌, true, ◌↔◌, T, List, [], ◌∷◌, length, take, ◌∙◌, ap, sym, arith}
use Rattle.std.proofs.lemmas.Bool.Decides.{nat_tests}
use mathlib.Core.Option.{Option}
use Rattle.wire.specs.Bytes.{Bytes}
use Rattle.figures.specs.Year.{Year}
use Rattle.figures.specs.Reckoning.{after_figures, after_year}
use Rattle.dossier.specs.Plan.{Plan}
use Rattle.dossier.specs.Records.{state_of, Dossier, DossierInRange, dossier_bytes, WellFormedPlan}
use Rattle.dossier.specs.Claims.{number_of}
use Rattle.dossier.specs.Causes.{ends_wrong, plan_not_of_form, causes, opening_causes, year_causes, closing_causes, ZeroOr}
use Rattle.dossier.specs.Reader.{refused, accepted}
use Rattle.dossier.specs.Judging.{dossier}
use Rattle.dossier.specs.JudgingPlan.{lent_plan, under}
use Rattle.dossier.proofs.CauseLaws.{without, not_listed, dossier_causes, dossier_part}
use Rattle.dossier.proofs.Causes.{opening_piece-causes}
use Rattle.dossier.proofs.WellFormed.{dossier-accepted, plan-accepted}
use Rattle.dossier.proofs.UnderLaws.{under-accepted, year_piece-under-causes, dossier-under-causes, under-first-bytes}
use Rattle.dossier.proofs.Numbers.{under-zero}
use Rattle.periods.specs.Periods.{EndsInRange, ends_sound}
use Rattle.periods.proofs.EndsLaws.{ends-judged}
use Rattle.reckoner.specs.Ledger.{Ledger, new_ledger, opened_ledger, given_year, given_years, ledger_of, first_year, due_of}
use Rattle.reckoner.specs.Calls.{answer_number, dossier_call, reckon_number, open_call, year_call, periods_answer, periods_says, close_says, reckon_says}
use Rattle.reckoner.proofs.CloseLaws.{sound, periods-zero}

-- every year given is counted
pub given-count : (ys : List Year) (l : Ledger) → (given_years ys l).given ≡ l.given + length ys
unfolding given_years
given-count [] l = omega arith
given-count (y ∷ ys) l = given-count ys (given_year y l) ∙ unfold given_year in omega arith

pub given-all : (plan : Option Plan) (d : Dossier) → DossierInRange plan d → (ledger_of d).given ≡ d.opening.head.years
given-all plan d h = let c = given-count d.years (opened_ledger d.opening) in unfold ledger_of opened_ledger new_ledger in omega (arith, c, h.count)

-- and the year that is due moves on with each
given_year_lem : (ys : List Year) (l : Ledger) → (given_years ys l).state.year ≡ l.state.year + length ys
unfolding given_years
given_year_lem [] l = omega arith
given_year_lem (y ∷ ys) l = given_year_lem ys (given_year y l) ∙ unfold given_year after_year after_figures in omega arith

pub first-is : (plan : Option Plan) (d : Dossier) → DossierInRange plan d → first_year (ledger_of d) ≡ d.opening.head.first_year
first-is plan d h =
    let c = given-count d.years (opened_ledger d.opening) in
    let y = given_year_lem d.years (opened_ledger d.opening) in
    unfold ledger_of opened_ledger new_ledger state_of in omega (arith, c, y)

-- "10 comes last": the plan's and the dossier's own number counts before the list's and the buffer's
pub number-refused : (s planned ends : List ℕ) (size n : ℕ) → under planned dossier s ≡ refused n → reckon_number s planned ends size ≡ n
unfolding reckon_says dossier_call
number-refused s planned ends size n e = rw (reckon_number, e)

pub number-accepted : (s planned ends : List ℕ) (size : ℕ) (d : Dossier) (rest : List ℕ) → under planned dossier s ≡ accepted d rest
    → reckon_number s planned ends size ≡ (periods_says (ledger_of d) ends size).number
unfolding reckon_says dossier_call
number-accepted s planned ends size d rest e = rw (reckon_number, e)

-- the list is judged against the dossier's years
pub sound-years : (plan : Option Plan) (d : Dossier) → DossierInRange plan d → (ends : List ℕ)
    → sound (ledger_of d) ends ≡ ends_sound d.opening.head.first_year d.opening.head.years ends
sound-years plan d h ends = rw (first-is plan d h, given-all plan d h)

-- of a dossier's ledger: its list is sound just where it is in range
pub in_range-sound : (p : Option Plan) (d : Dossier) → DossierInRange p d → (ends : List ℕ)
    → (sound (ledger_of d) ends ≡ true) ↔ EndsInRange d.opening.head.first_year d.opening.head.years ends
in_range-sound p d h ends = rw (sound-years p d h ends) (ends-judged _ _ h.opening.head.count.most ends)

-- and closing it with the list answers 0 just where the buffer has room besides
pub closing-zero : (p : Option Plan) (d : Dossier) → DossierInRange p d → (ends : List ℕ) (size : ℕ) → ((periods_says (ledger_of d) ends size).number ≡ 0)
    ↔ (EndsInRange d.opening.head.first_year d.opening.head.years ends × (64 * d.opening.head.years + 32 + 8 * length ends ≤ size))
closing-zero p d h ends size = grind (arith, periods-zero (ledger_of d) ends size, in_range-sound p d h ends, given-all p d h)

pub judged_as_lem : (s planned : List ℕ) (p : Option Plan) → WellFormedPlan p planned → (d : Dossier) → DossierInRange p d → s ≡ dossier_bytes d → under planned dossier s ≡ accepted d []
judged_as_lem s planned p w d h es =
    let plan-is : lent_plan planned ≡ accepted p [] = ap lent_plan w.1 ∙ plan-accepted.complete p w.0 in
    under-accepted dossier s planned p [] plan-is ∙ ap (dossier p) es ∙ (dossier-accepted p w.0).complete d h

-- a number that neither plan nor dossier answers: both are well formed, and closing the dossier's ledger with the list answers it
pub closing-number : (cause : ℕ) → T (without cause (plan_not_of_form ∷ dossier_causes)) → (s planned ends : List ℕ) → Bytes s → Bytes planned → (size : ℕ) (P : Dossier → Type 0)
    → ((p : Option Plan) (d : Dossier) → DossierInRange p d → ((periods_says (ledger_of d) ends size).number ≡ cause) ↔ P d)
    → (reckon_number s planned ends size ≡ cause) ↔ ((p : Option Plan) × WellFormedPlan p planned × ((d : Dossier) × DossierInRange p d × (s ≡ dossier_bytes d) × P d))
closing-number cause others s planned ends b bp size P closing = (
  (λ z.
      let other = not_listed cause (plan_not_of_form ∷ dossier_causes) others in
      let none : number_of (under planned dossier s) ≡ 0 = unfold reckon_says dossier_call in grind (arith, dossier-under-causes planned s, other) in
      let (p, w, (d, h, es)) = (under-zero dossier-accepted (plan_not_of_form ∷ dossier_causes) tt dossier-under-causes s planned b bp).1 none in
      (p, w, (d, h, es, (closing p d h).0 (sym (number-accepted s planned ends size d [] (judged_as_lem s planned p w d h es)) ∙ z)))),
  λ (p, w, (d, h, es, k)). number-accepted s planned ends size d [] (judged_as_lem s planned p w d h es) ∙ (closing p d h).1 k,
)

-- 0 just where the plan is well formed, the dossier is under it, the list is in range for its years, and the buffer holds 64 × n + 32 bytes and 8 for
-- each end
abbrev pub Reckoned : (s planned ends : List ℕ) (size : ℕ) → Type 0
Reckoned s planned ends size = (p : Option Plan) × WellFormedPlan p planned
    × ((d : Dossier) × DossierInRange p d × (s ≡ dossier_bytes d) × EndsInRange d.opening.head.first_year d.opening.head.years ends
    × (64 * d.opening.head.years + 32 + 8 * length ends ≤ size))

pub number-zero : (s planned ends : List ℕ) → Bytes s → Bytes planned → (size : ℕ) → Reckoned s planned ends size ↔ (reckon_number s planned ends size ≡ 0)
number-zero s planned ends b bp size =
    let x = closing-number 0 tt s planned ends b bp size _ (λ p d h. closing-zero p d h ends size) in
    ((λ (p, w, (d, h, es, fit, enough)). x.1 (p, w, (d, h, es, (fit, enough)))), λ z. let (p, w, (d, h, es, k)) = x.0 z in (p, w, (d, h, es, k.0, k.1)))

-- ---- the numbers of each call: 0, or one of its own causes
pub open-numbers : (piece : List ℕ) → ZeroOr opening_causes (answer_number (open_call piece).answer)
unfolding open_call
open-numbers piece = grind (arith, opening_piece-causes piece)

pub year-numbers : (l : Ledger) (piece plan : List ℕ) → ZeroOr (plan_not_of_form ∷ year_causes) (answer_number (year_call l piece plan).answer)
unfolding year_call
year-numbers l piece plan = grind (arith, year_piece-under-causes (λ p. due_of p l) plan piece)

pub close-numbers : (l : Ledger) (size : ℕ) → ZeroOr closing_causes (close_says l size).number
unfolding periods_answer ends_sound
close-numbers l size = grind (arith, nat_tests)

-- with a list the list's too
pub periods-numbers : (l : Ledger) (ends : List ℕ) (size : ℕ) → ZeroOr (ends_wrong ∷ closing_causes) (periods_says l ends size).number
unfolding periods_answer
periods-numbers l ends size = grind (arith, nat_tests)

pub reckon-numbers : (s planned ends : List ℕ) (size : ℕ) → ZeroOr causes (reckon_number s planned ends size)
unfolding reckon_says dossier_call periods_answer
reckon-numbers s planned ends size = grind (arith, nat_tests, dossier-under-causes planned s, dossier_part)

-- the first 65,536 bytes settle it, for any plan, any list and any buffer
pub same_number : (s planned ends : List ℕ) → Bytes s → Bytes planned → (size : ℕ) → reckon_number (take 65536 s) planned ends size ≡ reckon_number s planned ends size
unfolding reckon_says dossier_call
same_number s planned ends bs bp size = rw (reckon_number, under-first-bytes planned s bp bs)
