-- Each call is what is read of its bytes, one step after the other.
-- Assumes nothing.
use Rattle.std.proofs.Common.{◌≡◌, ℕ, zero, suc, List, [], ◌∷◌, ◌++◌, lit<, refl, ◌∙◌, ap, sym, arith}
use mathlib.Core.Option.{Option}
use Rattle.wire.specs.Bytes.{Bytes}
use Rattle.figures.specs.Year.{Year}
use Rattle.dossier.specs.Plan.{Plan}
use Rattle.dossier.specs.Records.{Opening, terms_of, state_of, Settled, settled, first_due, next}
use Rattle.dossier.specs.Reader.{accepted, after, ◌>>◌, give, mark, begin, followed}
use Rattle.dossier.specs.JudgingRecords.{head}
use Rattle.dossier.specs.Judging.{opening, opening_piece, year_piece, end, years, dossier}
use Rattle.dossier.specs.JudgingPlan.{under}
use Rattle.opening.specs.Opened.{settled_opening, settled_piece}
use Rattle.reckoner.specs.Ledger.{Ledger, new_ledger, empty_ledger, opened_ledger, due_of, given_year, given_years, ledger_of}
use Rattle.reckoner.specs.Calls.{open_call, refused_opening, year_call, dossier_call, HandedBack, opened, given, whole}
use Rattle.reckoner.specs.Parts.{opened_piece, give_years, given_piece, given_dossier, step_judged}

-- ---- the empty ledger is handed back by an opening of no bytes
no_bytes : open_call [] ≡ refused_opening 1
unfolding open_call opening_piece opening head begin mark followed
no_bytes = refl

pub empty_handed : HandedBack empty_ledger
unfolding open_call opening_piece opening head begin mark followed
empty_handed = opened [] (λ k. lit< tt)

-- ---- an opening piece
pub open_is : (s : List ℕ) → step_judged empty_ledger (opened_piece s) ≡ open_call s
unfolding open_call opened_piece settled_piece followed give settled opened_ledger
open_is s = grind arith

pub opened_handed : (s : List ℕ) → Bytes s → {o : Settled} {rest : List ℕ} → accepted o rest ≡ settled_piece s → HandedBack (new_ledger o.terms o.state)
unfolding opened_piece followed give
opened_handed s b e = rw (← open_is s, ← e) at (opened s b)

-- ---- a year piece
module _ (l : Ledger) (s planned : List ℕ) where
  pub year_is : step_judged l (under planned (given_piece l) s) ≡ year_call l s planned
  unfolding year_call under given_piece give_years year_piece followed give
  year_is = grind arith

pub given_handed : {l : Ledger} → HandedBack l → (s planned : List ℕ) → Bytes s → Bytes planned → {m : Ledger} {rest : List ℕ}
    → accepted m rest ≡ under planned (given_piece l) s → HandedBack m
given_handed {l} h s planned b bp e = rw (← year_is l s planned, ← e) at (given h s planned b bp)

-- ---- a dossier
pub given-more : (ys : List Year) (y : Year) (l : Ledger) → given_years (ys ++ (y ∷ [])) l ≡ given_year y (given_years ys l)
unfolding given_years
given-more [] y l = refl
given-more (x ∷ ys) y l = given-more ys y (given_year x l)

-- the years that are given one after the other are those that the dossier's judgement takes, those before among them
years_are : (plan : Option Plan) (k : ℕ) (l first : Ledger) (before : List Year) (s : List ℕ) → l ≡ given_years before first
    → after (give_years plan k l s) (λ m. end >> give m) ≡ after (years k (due_of plan l) before s) (λ ys. give (given_years ys first))
unfolding give_years years give followed due_of given_year next
years_are plan zero l first before s e = grind arith
years_are plan (suc k) l first before s e =
    grind (arith, λ (y : Year) (rest : List ℕ). years_are plan k (given_year y l) first (before ++ (y ∷ [])) rest (ap (given_year y) e ∙ sym (given-more before y first)))

module _ (s planned : List ℕ) where
  pub dossier_is : step_judged empty_ledger (under planned given_dossier s) ≡ dossier_call s planned
  unfolding dossier_call under given_dossier settled_opening dossier followed give settled state_of terms_of opened_ledger new_ledger first_due due_of given_years ledger_of
  dossier_is = grind (arith, λ (p : Option Plan) (o : Opening) (rest : List ℕ). years_are p o.head.years (opened_ledger o) (opened_ledger o) [] rest refl)

pub whole_handed : (s planned : List ℕ) → Bytes s → Bytes planned → {m : Ledger} {rest : List ℕ} → accepted m rest ≡ under planned given_dossier s → HandedBack m
whole_handed s planned b bp e = rw (← dossier_is s planned, ← e) at (whole s planned b bp)
