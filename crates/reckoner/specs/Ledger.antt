-- Document 01, "Calls and sheet": the ledger, what an opening and a year make of it, and what closing reports.
-- To be believed. Assumes nothing.
use Rattle.std.specs.Prelude.{ℕ, ◌+◌, ◌-◌, List, [], ◌∷◌, ℤ, set, replicate}
use Rattle.std.proofs.Math.Option.{Option}
use Rattle.figures.specs.declared.Terms.{Terms}
use Rattle.figures.specs.declared.State.{State}
use Rattle.figures.specs.declared.Figures.{Figures}
use Rattle.figures.specs.Figures.{no_figures}
use Rattle.figures.specs.Year.{Year}
use Rattle.figures.specs.Reckoning.{year_figures, after_year}
use Rattle.dossier.specs.Plan.{Plan}
use Rattle.dossier.specs.Records.{Opening, terms_of, state_of, empty_terms, empty_state, Due, Dossier}
use Rattle.report.specs.Report.{reported}

-- the number of years given, what the opening settled, the state that years change, and the figures of 20 years, those of the years given first
pub record Ledger : Type 0 where
  pub given : ℕ
  pub terms : Terms
  pub state : State
  pub figures : List Figures

-- a ledger with no year given
unfoldable pub new_ledger : Terms → State → Ledger
new_ledger terms state = record { given = 0; terms = terms; state = state; figures = replicate 20 no_figures }

-- "an empty ledger, all zeros with n 0"
unfoldable pub empty_ledger : Ledger
empty_ledger = new_ledger empty_terms empty_state

-- a ledger opened from HD to MP
unfoldable pub opened_ledger : Opening → Ledger
opened_ledger o = new_ledger (terms_of o) (state_of o)

-- what a year that it is given under a plan is judged against
unfoldable pub due_of : Option Plan → Ledger → Due
due_of plan l = record { terms = l.terms; state = l.state; plan = plan }

-- a year given: the state after it, and its figures after those of the years before
unfoldable pub given_year : Year → Ledger → Ledger
given_year y l = record {
  given = l.given + 1;
  terms = l.terms;
  state = after_year l.terms y l.state;
  figures = set l.figures l.given (year_figures l.terms y l.state.project l.state.belt);
}

unfoldable pub given_years : List Year → Ledger → Ledger
given_years [] l = l
given_years (y ∷ ys) l = given_years ys (given_year y l)

-- a dossier's ledger after its last year
unfoldable pub ledger_of : Dossier → Ledger
ledger_of d = given_years d.years (opened_ledger d.opening)

-- the first of its years: the one that was due when none was given
abbrev pub first_year : Ledger → ℕ
first_year l = l.state.year - l.given

-- what closing reports: the numbers of the years given so far
unfoldable pub report : Ledger → List ℤ
report l = reported l.given l.figures l.state.total.0 l.state.project.balance.0 l.state.belt.balance.0
