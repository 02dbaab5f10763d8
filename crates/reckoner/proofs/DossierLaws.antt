-- The dossier as a ledger's call: its opening, all its years given to the newly opened ledger, and EN.
-- Assumes nothing.
use Prim.Native.Nat.{ℕ, zero, suc}
use mathlib.Core.Path.{◌≡◌, refl, ◌∙◌, ap, sym}
use mathlib.Core.Option.{Option}
use mathlib.Core.List.{List, [], ◌∷◌, ◌++◌}
use Rattle.figures.specs.declared.Terms.{Terms}
use Rattle.figures.specs.declared.State.{State}
use Rattle.figures.specs.Year.{Year}
use Rattle.dossier.specs.Plan.{Plan}
use Rattle.dossier.specs.Records.{settled, next}
use Rattle.dossier.specs.Reader.{Judged, refused, accepted, after, followed, ◌>>◌, give}
use Rattle.dossier.specs.Judging.{opening, year, end, years, dossier}
use Rattle.dossier.specs.JudgingPlan.{lent_plan}
use Rattle.dossier.proofs.UnderLaws.{under-refused}
use Rattle.dossier.proofs.ReaderLaws.{no, never, bind_no, bind-yes, made_no}
use Rattle.opening.specs.Opened.{settled_opening}
use Rattle.reckoner.specs.Ledger.{Ledger, new_ledger, due_of, given_year, given_years}
use Rattle.reckoner.specs.Parts.{give_years}
use Rattle.reckoner.specs.Calls.{Answer, Step, refused_opening, dossier_judged, dossier_call}
use Rattle.reckoner.proofs.CallLaws.{given-more}
use Rattle.reckoner.proofs.LentPlan.{lent_as, IsPlan, under-plan}

-- ---- years given, and the judgement of a dossier's years
due-next : (plan : Option Plan) (y : Year) (l : Ledger) → due_of plan (given_year y l) ≡ next y (due_of plan l)
unfolding due_of given_year next
due-next plan y l = refl

-- a year that the ledger refuses, the judgement refuses
pub given_no : (plan : Option Plan) (k : ℕ) (l : Ledger) (before : List Year) (u : List ℕ) (n : ℕ) → refused n ≡ give_years plan k l u → refused n ≡ years k (due_of plan l) before u
unfolding give_years years give followed
given_no plan zero l before u n e = no _ _ _ e
given_no plan (suc k) l before u n e = go (λ y v f. rw (← due-next plan y l) (given_no plan k (given_year y l) (before ++ (y ∷ [])) v n f)) (year (due_of plan l) u) e
  where
    go : ((y : Year) (v : List ℕ) → refused n ≡ give_years plan k (given_year y l) v → refused n ≡ years k (next y (due_of plan l)) (before ++ (y ∷ [])) v) → (j : Judged Year)
        → refused n ≡ after j (λ y. give_years plan k (given_year y l)) → refused n ≡ after j (λ y. years k (next y (due_of plan l)) (before ++ (y ∷ [])))
    go more (refused m) f = let z : n ≡ m = cc in rw z
    go more (accepted y v) f = more y v f

-- those that it takes, from u to v, join the years before, and EN is due after them
pub record Taken (plan : Option Plan) (k : ℕ) (l : Ledger) (before : List Year) (u v : List ℕ) (m : Ledger) : Type 0 where
  pub all : List Year
  pub made : (opened : Ledger) → l ≡ given_years before opened → m ≡ given_years all opened
  pub goes_on : years k (due_of plan l) before u ≡ (end >> give all) v

pub given_yes : (plan : Option Plan) (k : ℕ) (l : Ledger) (before : List Year) (u v : List ℕ) (m : Ledger) → accepted m v ≡ give_years plan k l u → Taken plan k l before u v m
unfolding give_years years give followed
given_yes plan zero l before u v m e =
    let z : m ≡ l = cc in
    let w : v ≡ u = cc in
    record { all = before; made = λ opened h. z ∙ h; goes_on = rw w }
given_yes plan (suc k) l before u v m e = go (λ y w. given_yes plan k (given_year y l) (before ++ (y ∷ [])) w v m) (year (due_of plan l) u) refl e
  where
    go : ((y : Year) (w : List ℕ) → accepted m v ≡ give_years plan k (given_year y l) w → Taken plan k (given_year y l) (before ++ (y ∷ [])) w v m) → (j : Judged Year)
        → year (due_of plan l) u ≡ j → accepted m v ≡ after j (λ y. give_years plan k (given_year y l)) → Taken plan (suc k) l before u v m
    go more (refused n) ej f = never _ _ _ f
    go more (accepted y w) ej f =
        let t = more y w f in
        record {
          all = t.all;
          made = λ opened h. t.made opened (ap (given_year y) h ∙ sym (given-more before y opened));
          goes_on = rw (ej, ← due-next plan y l) t.goes_on;
        }

-- ---- a newly opened ledger given all the years from u on, and EN
abbrev pub years_judged : Ledger → Judged (List Year) → Step
years_judged l (refused n) = refused_opening n
years_judged l (accepted ys rest) = record { ledger = given_years ys l; answer = Answer.Accepted }

unfoldable pub years_call : Option Plan → Ledger → List ℕ → Step
years_call plan l s = years_judged l (years l.state.left (due_of plan l) [] s)

module _ (plan : Option Plan) (terms : Terms) (state : State) (l : Ledger) (el : l ≡ new_ledger terms state) (u : List ℕ) where
  pub all_left : (j : Judged Ledger) → j ≡ give_years plan state.left l u → j ≡ give_years plan l.state.left l u
  unfolding new_ledger
  all_left j says = let z : state.left ≡ l.state.left = rw el in says ∙ ap (λ (k : ℕ). give_years plan k l u) z

  pub years_no : (n : ℕ) → refused n ≡ give_years plan state.left l u → refused_opening n ≡ years_call plan l u
  unfolding years_call
  years_no n e = ap (years_judged l) (given_no plan l.state.left l [] u n (all_left (refused n) e))

  module _ (m : Ledger) (v : List ℕ) (e : accepted m v ≡ give_years plan state.left l u) where
    pub taken : Taken plan l.state.left l [] u v m
    taken = given_yes plan l.state.left l [] u v m (all_left (accepted m v) e)

    pub years_fault : (n : ℕ) → refused n ≡ end v → refused_opening n ≡ years_call plan l u
    unfolding years_call
    years_fault n f = ap (years_judged l) (bind_no end _ v n f ∙ sym taken.goes_on)

    pub years-yes : (rest : List ℕ) → accepted (tt {0}) rest ≡ end v → record { ledger = m; answer = Answer.Accepted } ≡ years_call plan l u
    unfolding years_call give
    years-yes rest f = rw (taken.made l (unfold given_years in refl)) (ap (years_judged l) (bind-yes end (λ _. give taken.all) v (tt {0}) rest f ∙ sym taken.goes_on))

-- ---- the dossier from its opening, under a plan
module _ (s planned : List ℕ) (is : IsPlan planned) (n : ℕ) (e : refused n ≡ settled_opening s) where
  pub opening_no : refused n ≡ dossier (lent_as planned) s
  unfolding dossier settled_opening followed
  opening_no = bind_no opening _ s n (made_no (opening s) settled n e)

  pub dossier_no : refused_opening n ≡ dossier_call s planned
  unfolding dossier_call
  dossier_no = ap dossier_judged (opening_no ∙ under-plan dossier s planned is)

-- a plan that is refused refuses the dossier
pub plan_no : (s planned : List ℕ) (n : ℕ) → refused n ≡ lent_plan planned → refused_opening n ≡ dossier_call s planned
unfolding dossier_call
plan_no s planned n e = ap dossier_judged (sym (under-refused dossier s planned n (sym e)))
