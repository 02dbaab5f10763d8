-- A plan's judgement step by step: its years one by one, its end, and what is lent.
-- Assumes nothing.
use Rattle.std.proofs.Common.{ℕ, zero, suc, ◌+◌, ◌<◌, ◌≡◌, refl, Bool, true, false, cond, List, [], ◌∷◌, ◌++◌, arith, lt-ltb, le-ltb, eqb, length, take, drop_of_length-le}
use mathlib.Core.Option.{none, some}
use Rattle.wire.specs.Bytes.{number}
use Rattle.dossier.specs.Causes.{plan_not_of_form}
use Rattle.dossier.specs.Marks.{mark_py, mark_en}
use Rattle.dossier.specs.Plan.{PlanYear, Plan}
use Rattle.dossier.specs.Reader.{refused, accepted, after, ◌>>◌, give, mark, stands, is, upon, if_any, nothing, followed}
use Rattle.dossier.specs.JudgingPlan.{plan_year, plan_end, plan_years, plan_fault, renumbered, plan, lent_plan}
use Rattle.dossier.proofs.ReaderLaws.{stood}

-- ---- the years: where PY stands and there is room, a year is read and the plan goes on after it, or it is refused; where no room is left it ends
module _ (least : ℕ) (before : List PlanYear) (s : List ℕ) where
  module _ (more less : ℕ) (room : more ≡ suc less) (here : stands (is mark_py) s ≡ true) where
    pub year-read : (p : PlanYear) (u : List ℕ) → plan_year least s ≡ accepted p u → plan_years more least before s ≡ plan_years less (p.year + 1) (before ++ (p ∷ [])) u
    unfolding plan_years upon followed
    year-read p u e = rw (room, here, e)

    pub year-refused : (n : ℕ) → plan_year least s ≡ refused n → plan_years more least before s ≡ refused n
    unfolding plan_years upon followed
    year-refused n e = rw (room, here, e)

  pub years_full : (more : ℕ) → more ≡ 0 → plan_years more least before s ≡ plan_end before s
  unfolding plan_years
  years_full more z = rw z

  pub years-over : (more : ℕ) → stands (is mark_py) s ≡ false → plan_years more least before s ≡ plan_end before s
  unfolding plan_years upon
  years-over zero f = refl
  years-over (suc more) f = rw f

-- ---- the end: EN and nothing more, or 12
module _ (years : Plan) (s : List ℕ) where
  -- where two bytes are left
  pub end_two : length s ≡ 2 → renumbered plan_fault (plan_end years s) ≡ cond (eqb (number (take 2 s)) mark_en) (accepted years []) (refused plan_not_of_form)
  unfolding plan_end mark nothing give followed
  end_two h = rw (le-ltb (length s) 2 (omega arith), drop_of_length-le s {i = 2} (omega arith)) (go (eqb (number (take 2 s)) mark_en))
    where
      go : (there : Bool)
          → renumbered plan_fault (after (cond there (accepted (tt {0}) []) (refused 2)) (λ _. nothing >> give years))
          ≡ cond there (accepted years []) (refused plan_not_of_form)
      go true = refl
      go false = refl

  -- PY is no end
  pub end_mark : stands (is mark_py) s ≡ true → renumbered plan_fault (plan_end years s) ≡ refused plan_not_of_form
  unfolding plan_end mark followed
  end_mark h = grind (arith, stood)

-- ---- what is lent: no bytes are no plan, any others are judged
module _ (s : List ℕ) where
  pub lent_none : length s ≡ 0 → lent_plan s ≡ accepted none s
  unfolding lent_plan if_any give
  lent_none h = rw (le-ltb 0 (length s) (omega arith))

  module _ (some_bytes : 0 < length s) where
    pub lent-refused : (n : ℕ) → renumbered plan_fault (plan_years 20 0 [] s) ≡ refused n → lent_plan s ≡ refused n
    unfolding lent_plan if_any plan followed
    lent-refused n e = rw (lt-ltb _ _ some_bytes, e)

    pub lent_some : (p : Plan) (u : List ℕ) → renumbered plan_fault (plan_years 20 0 [] s) ≡ accepted p u → lent_plan s ≡ accepted (some p) u
    unfolding lent_plan if_any plan give followed
    lent_some p u e = rw (lt-ltb _ _ some_bytes, e)
