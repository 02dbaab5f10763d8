-- The plan that bytes are, what is judged under it, and the tables that the terms give.
-- Assumes nothing.
use Prim.Native.Nat.{ℕ, ◌+◌, ◌*◌, ◌-◌, ◌≤◌, ◌<◌}
use mathlib.Core.Path.{◌≡◌, sym}
use mathlib.Core.Option.{Option, none}
use mathlib.Core.List.{List}
use native.Mathlib.Omega.{arith}
use Rattle.wire.specs.Bytes.{Bytes}
use Rattle.classes.specs.Classes.{emission_factor}
use Rattle.classes.specs.Matrix.{entry, table_of}
use Rattle.activity.specs.Records.{Activity}
use Rattle.figures.specs.declared.Terms.{Terms}
use Rattle.figures.specs.Figures.{counted_factor}
use Rattle.figures.specs.Year.{Year}
use Rattle.dossier.specs.Plan.{Plan, PlanLent, records_for}
use Rattle.dossier.specs.Records.{YearInRange}
use Rattle.dossier.specs.Reader.{Judged, refused, accepted, Reader, after, give}
use Rattle.dossier.specs.Judging.{year}
use Rattle.dossier.specs.JudgingPlan.{lent_plan, under}
use Rattle.dossier.proofs.WellFormed.{plan-accepted}
use Rattle.dossier.proofs.UnderLaws.{under-accepted}
use Rattle.dossier.proofs.YearLaws.{year_exact}
use Rattle.std.specs.Int.Signed.{mag}
use Rattle.classes.specs.Ranges.{greatest_figure}
use Rattle.reckoning.specs.Step.{stepped_year}
use Rattle.reckoning.proofs.StepLaws.{year_advanced, step_is}
use Rattle.reckoner.specs.declared.Years.{Years}
use Rattle.reckoner.specs.Ledger.{Ledger, due_of}
use Rattle.reckoner.proofs.Invariant.{LedgerKept, due-kept}
use Rattle.reckoner.proofs.GivenLaws.{SoFar}

-- the tables of emission factors, of projected and of monitored conversions, that the terms give
pub record Tables (t : Terms) (factors counted : List ℕ) : Type 0 where
  pub of_factors : factors ≡ table_of (emission_factor t.stocks)
  pub of-counted : counted ≡ table_of (counted_factor t.option (emission_factor t.stocks))

pub tables : (t : Terms) {factors counted : List ℕ}
    → (factors ≡ table_of (emission_factor t.stocks)) × (counted ≡ table_of (counted_factor t.option (emission_factor t.stocks)))
    → Tables t factors counted
tables t w = record { of_factors = w.0; of-counted = w.1 }

-- ---- the plan that these bytes are; none where they are refused
abbrev pub plan_of : Judged (Option Plan) → Option Plan
plan_of (refused n) = none
plan_of (accepted plan rest) = plan

abbrev pub lent_as : List ℕ → Option Plan
lent_as s = plan_of (lent_plan s)

abbrev pub IsPlan : List ℕ → Type 0
IsPlan planned = (rest : List ℕ) × (lent_plan planned ≡ accepted (lent_as planned) rest)

pub lent_as_lem : (planned : List ℕ) → Bytes planned → IsPlan planned → PlanLent (lent_as planned)
lent_as_lem planned b w = (plan-accepted.sound planned b (lent_as planned) w.0 w.1).0

-- bytes judged under that plan
pub under-plan : {A : Type 0} (judge : Option Plan → Reader A) (s planned : List ℕ) → IsPlan planned → judge (lent_as planned) s ≡ under planned judge s
under-plan judge s planned w = sym (under-accepted judge s planned (lent_as planned) w.0 w.1)

-- ---- a step by the tables of the terms is the year that is due, judged under the plan
pub in_terms : (plan : Option Plan) (t : Terms) (m : Ledger) (factors counted : List ℕ) (from_plan : Option (List Activity)) (s : List ℕ) → m.terms ≡ t → from_plan ≡ records_for plan m.state.year
    → stepped_year (entry factors) (entry counted) t.matrix from_plan t.start.0 t.beltstart.0 m.state s
    ≡ stepped_year (entry factors) (entry counted) m.terms.matrix (records_for plan m.state.year) m.terms.start.0 m.terms.beltstart.0 m.state s
in_terms plan t m factors counted from_plan s e there = rw (e, there)

pub judged : (plan : Option Plan) (m : Ledger) (factors counted : List ℕ) → Tables m.terms factors counted → (s : List ℕ)
    → stepped_year (entry factors) (entry counted) m.terms.matrix (records_for plan m.state.year) m.terms.start.0 m.terms.beltstart.0 m.state s
    ≡ after (year (due_of plan m) s) (λ y. give (year_advanced m.terms y m.state))
unfolding due_of
judged plan m factors counted w s = step_is m.terms factors counted w.of_factors w.of-counted plan m.state s

-- ---- years given one after the other: none is given yet
pub none_yet : (plan : Option Plan) (t : Terms) (count : ℕ) (first : Years) (s : List ℕ) → first.given + first.state.left ≤ 20
    → mag first.state.total.0 ≤ greatest_figure * first.given → SoFar plan t count first s 0 first s
none_yet plan t count first s h small = let z : count - 0 ≡ count = omega arith in record { room = h; total = small; goes_on = rw z }

-- one is to come: it is in range, and there is a place for its figures
module _ (plan : Option Plan) (m : Ledger) (kept : LedgerKept m) (lent : PlanLent plan) (s : List ℕ) (b : Bytes s) (y : Year) (rest : List ℕ) (e : accepted y rest ≡ year (due_of plan m) s) where
  pub in_range_lem : YearInRange (due_of plan m) y
  in_range_lem = ((year_exact (due_of plan m) (due-kept plan lent m kept)).only s b (omega arith) y rest (sym e)).1.0

  pub one_left : m.given < 20
  unfolding due_of
  one_left = omega (arith, in_range_lem.left, kept.count)
