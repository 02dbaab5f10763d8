-- A year of the plan at a place, from the field that is read there and the test of it.
-- Assumes nothing.
use Prim.Native.Nat.{ℕ, ◌+◌, ◌≤◌, ◌<◌}
use mathlib.Core.Path.{◌≡◌, refl, ◌∙◌, sym}
use mathlib.Core.Bool.{cond}
use mathlib.Core.List.{List, []}
use native.Mathlib.Omega.{arith}
use borrow.Author.Tests.{lt-ltb, ne_eqb}
use lib.ListN.{drop}
use Rattle.units.specs.declared.Grams.{Grams}
use Rattle.activity.specs.Records.{Activity}
use Rattle.wire.specs.Bytes.{field_at}
use Rattle.dossier.specs.Marks.{mark_py}
use Rattle.dossier.specs.Plan.{PlanYear}
use Rattle.dossier.specs.Reader.{Judged, refused, accepted, followed, ◌>>=◌, give, begin, outside}
use Rattle.dossier.specs.Judging.{activities}
use Rattle.dossier.specs.JudgingPlan.{plan_year, plan_fault}
use Rattle.activities.proofs.RecordLaws.{inside}
use Rattle.dossier.proofs.ReaderLaws.{made_no, made-yes, bind_no, bind-yes}
use Rattle.dossier.proofs.CauseLaws.{not_listed}
use Rattle.dossier.proofs.Causes.{record_causes, begin-causes}
use Rattle.cursor.proofs.AtLaws.{begun_says, begun_no, begun-yes, reading}
use Rattle.activities.specs.Answers.{summed_activities}

-- a plan whose year is judged so is refused with the number m
pub record Refuses (j : Judged PlanYear) (m : ℕ) : Type 0 where
  pub cause : ℕ
  pub judged : refused cause ≡ j
  pub number : m ≡ plan_fault cause

module _ (least : ℕ) (s : List ℕ) (at r : ℕ) (h : begun_says s at r ≡ begin mark_py 2 (drop at s)) where
  -- no PY, or bytes are missing
  pub no_year_lem : (r ≡ 0 → ⊥) → Refuses (plan_year least (drop at s)) 12
  unfolding plan_year
  no_year_lem f =
      let other : r ≡ 14 → ⊥ = λ e. not_listed 14 record_causes tt (begin-causes mark_py 2 (drop at s) 14 (sym h ∙ rw (ne_eqb r 0 f, e))) in
      record { cause = r; judged = begun_no s at mark_py 2 r h _ f; number = rw (ne_eqb r 14 other) }

  module _ (z : r ≡ 0) (y : ℕ) (ey : y ≡ field_at 2 s (at + 2)) where
    -- the year with these records
    abbrev pub of : List Activity → PlanYear
    of l = record { year = y; activities = l }

    pub year-at : plan_year least (drop at s) ≡ cond (outside least y 65_535) (refused 12) ((activities [] >>= λ l. give (of l)) (drop (at + 4) s))
    unfolding plan_year
    year-at = rw (← begun-yes s at mark_py 2 r h _ z) (simp (reading, ← ey))

    pub too_early : y < least → Refuses (plan_year least (drop at s)) 12
    unfolding outside
    too_early l = record { cause = 12; judged = sym (year-at ∙ simp (lt-ltb _ _ l)); number = refl }

    module _ (small : y < 65536) (due : least ≤ y) where
      year-is : plan_year least (drop at s) ≡ (activities [] >>= λ l. give (of l)) (drop (at + 4) s)
      year-is = year-at ∙ rw (inside least y 65_535 (record { least = due; most = omega arith }))

      pub records_no : (n m : ℕ) → refused n ≡ summed_activities (drop (at + 4) s) → m ≡ plan_fault n → Refuses (plan_year least (drop at s)) m
      unfolding summed_activities followed
      records_no n m e f = record {
        cause = n;
        judged = bind_no (activities []) _ _ n (made_no (activities [] (drop (at + 4) s)) _ n e) ∙ sym year-is;
        number = f;
      }

      -- the year with records that emit so much, and the bytes after them
      pub records-read : (grams : Grams) (rest : List ℕ) → accepted grams rest ≡ summed_activities (drop (at + 4) s)
          → (l : List Activity) × (accepted l rest ≡ activities [] (drop (at + 4) s)) × (accepted (of l) rest ≡ plan_year least (drop at s))
      unfolding summed_activities give followed
      records-read grams rest e =
          let m = made-yes (activities [] (drop (at + 4) s)) _ grams rest e in
          (m.value, m.judged, bind-yes (activities []) _ _ _ _ m.judged ∙ sym year-is)

-- a year that is refused, refused with a number of the plan
pub was_refused : (j : Judged PlanYear) (m : ℕ) → Refuses j m → (n : ℕ) × (j ≡ refused n) × (m ≡ plan_fault n)
was_refused j m r = (r.cause, sym r.judged, r.number)
