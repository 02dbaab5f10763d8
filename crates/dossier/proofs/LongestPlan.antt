-- #103 and #106: the longest plan has 18,322 bytes.
-- Assumes nothing.
use Rattle.std.proofs.Common.{ℕ, zero, suc, ◌+◌, ◌*◌, ◌≤◌, ◌≡◌, refl, List, [], ◌∷◌, map, arith, lit≤, length, length-append}
use mathlib.Core.Option.{Option, some}
use Rattle.wire.specs.Bytes.{Bytes, bytes, joined}
use Rattle.dossier.specs.Layouts.{activity_bytes}
use Rattle.dossier.specs.Plan.{PlanYear, PlanYearInRange, plan_year_bytes, PlanYearsInRange, Plan, plan_bytes, PlanLent}
use Rattle.dossier.specs.Records.{bytes_if_any}
use Rattle.dossier.specs.Reader.{accepted}
use Rattle.dossier.specs.JudgingPlan.{lent_plan}
use Rattle.wire.proofs.BytesLaws.{length-bytes}
use Rattle.dossier.proofs.WellFormed.{plan-accepted}
use Rattle.dossier.proofs.Longest.{run_length, sixty, sixty-in_range}

year-length : (least : ℕ) (p : PlanYear) → PlanYearInRange least p → length (plan_year_bytes p) ≤ 916
unfolding plan_year_bytes joined
year-length least p r = let h = run_length p.activities in let c = r.activities.count in let d = r.activities.residue_count in simp (length-append, length-bytes) (omega arith)

years-length : (least : ℕ) (l : List PlanYear) → PlanYearsInRange least l → length (joined (map plan_year_bytes l)) ≤ length l * 916
unfolding joined
years-length least [] r = omega arith
years-length least (p ∷ l) r =
    let h = year-length least p r.0 in
    let k = years-length (p.year + 1) l r.1 in
    simp length-append (omega arith)

lent_length : (m : Option Plan) → PlanLent m → length (bytes_if_any plan_bytes m) ≤ 18322
unfolding bytes_if_any plan_bytes joined
lent_length m r = grind (arith, length-append, length-bytes, years-length)

pub longest_plan : (s : List ℕ) → Bytes s → (m : Option Plan) (rest : List ℕ) → lent_plan s ≡ accepted m rest → length s ≤ 18322
longest_plan s bs m rest q = let w = plan-accepted.sound s bs m rest q in rw w.1 (lent_length m w.0)

-- ---- and one of that length is accepted: 20 years, each with 58 records of VE and two of CR
abbrev years_from : ℕ → ℕ → List PlanYear
years_from zero y = []
years_from (suc k) y = record { year = y; activities = sixty } ∷ years_from k (y + 1)

abbrev pub full_plan : Plan
full_plan = years_from 20 2000

in_range_lem : (k least : ℕ) → least + k ≤ 65535 → PlanYearsInRange least (years_from k least)
in_range_lem zero least h = tt
in_range_lem (suc k) least h = (record { years = omega arith; activities = sixty-in_range }, in_range_lem k (least + 1) (omega arith))

pub longest_plan_accepted : (lent_plan (plan_bytes full_plan) ≡ accepted (some full_plan) []) × (length (plan_bytes full_plan) ≡ 18322)
unfolding bytes_if_any
longest_plan_accepted = (
  plan-accepted.complete (some full_plan) (record { count = lit≤ tt; years = later 20 (in_range_lem 20 2000 (lit≤ tt)) }),
  unfold bytes joined activity_bytes plan_year_bytes plan_bytes in refl,
)
  where
    -- what rises from 2000 on rises from 0 on
    later : (k : ℕ) → PlanYearsInRange 2000 (years_from k 2000) → PlanYearsInRange 0 (years_from k 2000)
    later zero h = tt
    later (suc k) h = (record { years = omega (arith, h.0.years); activities = h.0.activities }, h.1)
