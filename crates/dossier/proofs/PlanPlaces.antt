-- The numbers of PL at its place (#103): 13 right after it, whatever follows; 2 where another mark than YR or EN follows it, and where it follows an
-- activity record.
-- Assumes nothing.
use Rattle.std.proofs.Common.{ℕ, ◌<◌, ◌≡◌, Bool, true, false, List, ◌∷◌, ◌++◌, map, append_assoc, arith, lit<, length}
use mathlib.Core.Option.{Option, none}
use Rattle.activity.specs.Records.{Activity}
use Rattle.figures.specs.Year.{Year}
use Rattle.figures.specs.Figures.{small_activity}
use Rattle.wire.specs.Bytes.{bytes, joined}
use Rattle.dossier.specs.Marks.{mark_yr, mark_pl, mark_en}
use Rattle.dossier.specs.Plan.{Plan, PlanLent, records_for}
use Rattle.dossier.specs.Records.{Opening, OpeningInRange, opening_bytes, Due, first_due, figures_for, YearInRange, year_bytes, YearsInRange}
use Rattle.dossier.specs.Claims.{DueInRange}
use Rattle.dossier.specs.Reader.{refused, holds, is, followed}
use Rattle.dossier.specs.JudgingRecords.{activity_mark}
use Rattle.dossier.specs.Judging.{year, dossier}
use Rattle.dossier.proofs.ReaderLaws.{stands-bytes}
use Rattle.dossier.proofs.ActivityLaws.{begins_activity}
use Rattle.dossier.proofs.RunLaws.{run_bytes}
use Rattle.dossier.proofs.TakenLaws.{Follows, activity-not-planned, taken_missing}
use Rattle.dossier.proofs.YearLaws.{TablesInRange, LeftInRange, left_exact, large_refused, tables_bytes, records-refused}
use Rattle.dossier.proofs.DossierLaws.{due_after}
use Rattle.dossier.proofs.Places.{year_then_other}

-- after PL anything may follow
any_follows : (planned : Bool) (l : List Activity) (t : List ℕ) → planned ≡ true → Follows planned l t
any_follows planned l t e = grind arith

-- "13 right after PL, where the plan lacks the year": whatever follows PL
pub plan_lacks : (due : Due) → DueInRange due → (y : Year) → TablesInRange due y → records_for due.plan due.state.year ≡ none → (t : List ℕ)
    → year due (tables_bytes y ++ (bytes 2 mark_pl ++ t)) ≡ refused 13
plan_lacks due h y p e t = records-refused due h y p (bytes 2 mark_pl ++ t) 13 (rw e (taken_missing (bytes 2 mark_pl ++ t) (stands-bytes (is mark_pl) mark_pl t (lit< tt))))

-- "or the inequality fails": whatever follows PL
pub not-small : (due : Due) → DueInRange due → (y : Year) → LeftInRange due y → y.planned ≡ true → small_activity (figures_for due y) ≡ false → (t : List ℕ)
    → year due (year_bytes y ++ t) ≡ refused 13
unfolding year holds followed
not-small due h y p planned large t =
    let follow = any_follows y.planned y.activities t planned in
    rw ((left_exact due h).reads y t tt (p, follow), large_refused due y planned large)

-- "PL is due only right after CD": after an activity record it is no more read with the year
records_then-planned : (a : Activity) (l : List Activity) (t : List ℕ) → Follows false (a ∷ l) (bytes 2 mark_pl ++ t)
unfolding run_bytes joined activity_mark
records_then-planned a l t = grind (arith, stands-bytes, append_assoc, activity-not-planned, begins_activity, run_bytes)

-- ---- in a dossier, after years in range
module _ (plan : Option Plan) (lent : PlanLent plan) (o : Opening) (p : OpeningInRange o) (l : List Year) (q : YearsInRange (first_due plan o) l)
    (some_left : length l < o.head.years) (y : Year) (r : YearInRange (due_after l (first_due plan o)) y) (t : List ℕ) where
  -- the bytes to the end of the year, and what follows
  abbrev so_far : List ℕ → List ℕ
  so_far u = opening_bytes o ++ (joined (map year_bytes l) ++ (year_bytes y ++ u))

  -- "an activity record or another PL after it is 2", and any other mark but YR and EN
  pub after-planned : y.planned ≡ true → (m : ℕ) → m < 65536 → (m ≡ mark_yr → ⊥) → (m ≡ mark_en → ⊥) → dossier plan (so_far (bytes 2 m ++ t)) ≡ refused 2
  after-planned planned m small f g = grind (arith, year_then_other)

  -- as PL after an activity record is
  pub planned-after : y.planned ≡ false → (a : Activity) (more : List Activity) → y.activities ≡ a ∷ more → dossier plan (so_far (bytes 2 mark_pl ++ t)) ≡ refused 2
  planned-after own a more e = grind (arith, year_then_other, records_then-planned)
