-- Years given to a ledger one after the other, each by a step of the tables of the terms.
-- Assumes nothing.
use Rattle.std.proofs.Common.{◌≡◌, ℕ, suc, ◌+◌, ◌-◌, ◌*◌, ◌≤◌, ◌<◌, List, set, refl, ◌∙◌, sym, arith}
use Rattle.std.specs.Int.Signed.{mag}
use mathlib.Core.Option.{Option}
use Rattle.classes.specs.Classes.{emission_factor}
use Rattle.classes.specs.Matrix.{entry, table_of}
use Rattle.classes.specs.Ranges.{greatest_figure}
use Rattle.figures.specs.declared.Terms.{Terms}
use Rattle.figures.specs.Figures.{counted_factor}
use Rattle.dossier.specs.Plan.{Plan, records_for}
use Rattle.dossier.specs.Reader.{Judged, refused, accepted, after, give, followed}
use Rattle.reckoning.specs.declared.Advanced.{Advanced}
use Rattle.reckoning.specs.Step.{stepped_year}
use Rattle.reckoning.proofs.StepLaws.{year_advanced, step_is}
use Rattle.reckoner.specs.declared.Years.{Years}
use Rattle.reckoner.specs.Ledger.{due_of, given_year}
use Rattle.reckoner.specs.Said.{ledger_with}
use Rattle.reckoner.specs.Parts.{give_years}

-- the years given and one more, of which a step made this
abbrev pub with_advanced : Years → Advanced → Years
with_advanced years a = record { given = years.given + 1; state = a.state; figures = set years.figures years.given a.figures }

-- by the tables of the terms, the next year of the bytes is a step
module _ (t : Terms) (factors counted : List ℕ) (plan : Option Plan) (years : Years) (s : List ℕ) where
  abbrev pub stepped : Judged Advanced
  stepped = stepped_year (entry factors) (entry counted) t.matrix (records_for plan years.state.year) t.start.0 t.beltstart.0 years.state s

  pub next-step : (factors ≡ table_of (emission_factor t.stocks)) → (counted ≡ table_of (counted_factor t.option (emission_factor t.stocks))) → (k : ℕ)
      → give_years plan (suc k) (ledger_with t years) s ≡ after stepped (λ a. give_years plan k (ledger_with t (with_advanced years a)))
  unfolding give_years due_of followed given_year year_advanced give
  next-step ef ec k = grind (arith, step_is t factors counted ef ec plan years.state s)

-- k of the years are given, and those to come come to what all come to
pub record SoFar (plan : Option Plan) (t : Terms) (count : ℕ) (first : Years) (s : List ℕ) (k : ℕ) (years : Years) (rest : List ℕ) : Type 0 where
  pub room : years.given + years.state.left ≤ 20
  pub total : mag years.state.total.0 ≤ greatest_figure * years.given
  pub goes_on : give_years plan count (ledger_with t first) s ≡ give_years plan (count - k) (ledger_with t years) rest

module _ {plan : Option Plan} {t : Terms} {count : ℕ} {first : Years} {s : List ℕ} {k : ℕ} {years : Years} {rest : List ℕ} (f : SoFar plan t count first s k years rest) where
  pub all-given : count ≤ k → accepted (ledger_with t years) rest ≡ give_years plan count (ledger_with t first) s
  unfolding give_years give
  all-given h = let z : count - k ≡ 0 = omega arith in sym (f.goes_on ∙ rw z)

  module _ (less : k < count) {factors counted : List ℕ} (ef : factors ≡ table_of (emission_factor t.stocks))
      (ec : counted ≡ table_of (counted_factor t.option (emission_factor t.stocks))) where
    to_come : give_years plan count (ledger_with t first) s
        ≡ after (stepped t factors counted plan years rest) (λ a. give_years plan (count - (k + 1)) (ledger_with t (with_advanced years a)))
    to_come = let z : count - k ≡ suc (count - (k + 1)) = omega arith in f.goes_on ∙ rw z (next-step t factors counted plan years rest ef ec (count - (k + 1)))

    pub one_refused : {n : ℕ} → refused n ≡ stepped t factors counted plan years rest → refused n ≡ give_years plan count (ledger_with t first) s
    one_refused e = rw (to_come, ← e) refl

    pub one_more_lem : {a : Advanced} {next : List ℕ} → accepted a next ≡ stepped t factors counted plan years rest → a.state.left + 1 ≡ years.state.left
        → mag a.state.total.0 ≤ mag years.state.total.0 + greatest_figure → SoFar plan t count first s (k + 1) (with_advanced years a) next
    one_more_lem e h more = record { room = omega (arith, f.room); total = omega (arith, f.total, more); goes_on = rw (to_come, ← e) refl }
