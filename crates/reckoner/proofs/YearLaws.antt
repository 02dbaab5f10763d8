-- A year piece given to a ledger: one year, and nothing after it.
-- Assumes nothing.
use mathlib.Core.Path.{◌≡◌, ◌∙◌, ap, sym}
use mathlib.Core.List.{List}
use Prim.Native.Nat.{ℕ}
use Rattle.dossier.specs.Reader.{refused, accepted, followed, ◌>>◌, give, end_of_piece}
use Rattle.dossier.specs.Judging.{year, year_piece}
use Rattle.dossier.specs.JudgingPlan.{lent_plan, under}
use Rattle.dossier.proofs.UnderLaws.{under-refused}
use Rattle.dossier.proofs.ReaderLaws.{bind_no, bind-yes, Made, made_no, made-yes}
use Rattle.reckoner.specs.Ledger.{Ledger, due_of, given_year}
use Rattle.reckoner.specs.Parts.{give_years}
use Rattle.reckoner.specs.Calls.{Answer, year_judged, year_call}
use Rattle.reckoner.proofs.LentPlan.{lent_as, IsPlan, under-plan}

module _ (l : Ledger) (s planned : List ℕ) (is : IsPlan planned) where
  -- the plan is one, and the piece is judged under it
  pub piece_under : year_piece (due_of (lent_as planned) l) s ≡ under planned (λ p. year_piece (due_of p l)) s
  piece_under = under-plan (λ p. year_piece (due_of p l)) s planned is

  pub piece_no : (n : ℕ) → refused n ≡ give_years (lent_as planned) 1 l s → refused n ≡ year_piece (due_of (lent_as planned) l) s
  unfolding year_piece give_years followed
  piece_no n e = bind_no (year (due_of (lent_as planned) l)) _ s n (made_no (year (due_of (lent_as planned) l) s) (λ y. given_year y l) n e)

  pub year_no : (n : ℕ) → refused n ≡ give_years (lent_as planned) 1 l s → record { ledger = l; answer = Answer.Refused n } ≡ year_call l s planned
  unfolding year_call
  year_no n e = ap (year_judged l) (piece_no n e ∙ piece_under)

  module _ (m : Ledger) (rest : List ℕ) (e : accepted m rest ≡ give_years (lent_as planned) 1 l s) where
    pub one : Made (year (due_of (lent_as planned) l) s) (λ y. given_year y l) m rest
    unfolding give_years followed
    one = made-yes (year (due_of (lent_as planned) l) s) (λ y. given_year y l) m rest e

    pub piece_is : (end_of_piece >> give one.value) rest ≡ year_piece (due_of (lent_as planned) l) s
    unfolding year_piece
    piece_is = bind-yes (year (due_of (lent_as planned) l)) _ s one.value rest one.judged

    pub year_fault : (n : ℕ) → refused n ≡ end_of_piece rest → record { ledger = l; answer = Answer.Refused n } ≡ year_call l s planned
    unfolding year_call
    year_fault n f = ap (year_judged l) (bind_no end_of_piece _ rest n f ∙ piece_is ∙ piece_under)

    pub year-yes : (left : List ℕ) → accepted (tt {0}) left ≡ end_of_piece rest → record { ledger = m; answer = Answer.Accepted } ≡ year_call l s planned
    unfolding year_call give
    year-yes left f = rw one.made (ap (year_judged l) (bind-yes end_of_piece (λ _. give one.value) rest (tt {0}) left f ∙ piece_is ∙ piece_under))

-- a plan that is refused refuses the year
pub plan_no : (l : Ledger) (s planned : List ℕ) (n : ℕ) → refused n ≡ lent_plan planned → record { ledger = l; answer = Answer.Refused n } ≡ year_call l s planned
unfolding year_call
plan_no l s planned n e = ap (year_judged l) (sym (under-refused (λ p. year_piece (due_of p l)) s planned n (sym e)))
