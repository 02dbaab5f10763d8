-- What stands for a year's activity records, own ones or PL: what is accepted is exactly their bytes, or PL where the plan has the year.
-- Assumes nothing.
use Rattle.std.proofs.Common.{ℕ, ◌≤◌, ◌<◌, ◌≡◌, refl, ◌∙◌, Bool, true, false, List, [], ◌∷◌, ◌++◌, map, append_assoc, arith, le-ltb, eq-eqb, length, drop, ⊎_elim}
use mathlib.Core.Option.{Option, none, some}
use Rattle.activity.specs.Records.{Activity}
use Rattle.activity.specs.Activity.{RunInRange}
use Rattle.wire.specs.Bytes.{Bytes, bytes, joined}
use Rattle.dossier.specs.Marks.{mark_pl}
use Rattle.dossier.specs.Layouts.{activity_bytes}
use Rattle.dossier.specs.Records.{RecordsInRange, records_bytes}
use Rattle.dossier.specs.Reader.{refused, accepted, after, give, refuse, mark, stands, is, upon, followed}
use Rattle.dossier.specs.JudgingRecords.{activity_mark}
use Rattle.dossier.specs.Judging.{activities, Taken, from_the_plan, taken}
use Rattle.dossier.proofs.ReaderLaws.{step, was, mark-yes, mark-only, stands_short, stands-bytes, stood, chosen}
use Rattle.dossier.proofs.Exact.{Exact}
use Rattle.dossier.proofs.ExactParts.{Any}
use Rattle.dossier.proofs.ActivityLaws.{begins_activity}
use Rattle.dossier.proofs.RunLaws.{Over, run_bytes, activities_exact}

-- ---- what may follow
-- after own records no activity mark, and no PL where none are there; after PL anything
abbrev pub Follows : (planned : Bool) → List Activity → List ℕ → Type 0
Follows false l t = Over t × (stands (is mark_pl) (run_bytes l ++ t) ≡ false)
Follows true l t = Unit {0}

planned_other : activity_mark mark_pl ≡ false
unfolding activity_mark
planned_other = refl

-- where an activity mark stands, PL does not
pub activity-not-planned : (s : List ℕ) → stands activity_mark s ≡ true → stands (is mark_pl) s ≡ false
unfolding stands
activity-not-planned s e = grind (arith, planned_other)

-- neither an activity mark nor PL stands before t
abbrev pub Beyond : List ℕ → Type 0
Beyond t = Over t × (stands (is mark_pl) t ≡ false)

pub follows : (planned : Bool) (l : List Activity) (t : List ℕ) → Beyond t → Follows planned l t
unfolding run_bytes joined
follows true l t b = tt
follows false [] t b = b
follows false (a ∷ l) t b = (b.0, rw append_assoc (activity-not-planned _ (begins_activity a (run_bytes l ++ t))))

-- nor before records that an activity mark follows
pub run-not-planned : (l : List Activity) (t : List ℕ) → stands activity_mark t ≡ true → stands (is mark_pl) (run_bytes l ++ t) ≡ false
unfolding run_bytes joined
run-not-planned [] t h = activity-not-planned t h
run-not-planned (a ∷ l) t h = rw append_assoc (activity-not-planned _ (begins_activity a (run_bytes l ++ t)))

pub short_beyond : (t : List ℕ) → length t < 2 → Beyond t
short_beyond t h = (stands_short activity_mark t h, stands_short (is mark_pl) t h)

-- a mark that is neither
pub mark_beyond : (m : ℕ) (t : List ℕ) → m < 65536 → activity_mark m ≡ false → is mark_pl m ≡ false → Beyond (bytes 2 m ++ t)
mark_beyond m t h a p = (stands-bytes activity_mark m t h ∙ a, stands-bytes (is mark_pl) m t h ∙ p)

-- ---- the reader, by what stands
pub mark-stands : (m : ℕ) (s : List ℕ) → stands (is m) s ≡ true → (mark m s ≡ accepted tt (drop 2 s)) × (2 ≤ length s)
unfolding mark
mark-stands m s h = let (long, e) = stood m s h in (simp (le-ltb _ _ long, eq-eqb _ _ e), long)

pub taken_missing : (s : List ℕ) → stands (is mark_pl) s ≡ true → taken none s ≡ refused 13
unfolding taken upon followed from_the_plan refuse
taken_missing s h = rw (h, (mark-stands mark_pl s h).0)

pub taken-planned : (l : List Activity) (s : List ℕ) → stands (is mark_pl) s ≡ true → taken (some l) s ≡ accepted (record { planned = true; activities = l }) (drop 2 s)
unfolding taken upon followed from_the_plan give
taken-planned l s h = rw (h, (mark-stands mark_pl s h).0)

pub taken_own : (from_plan : Option (List Activity)) (s : List ℕ) → stands (is mark_pl) s ≡ false
    → taken from_plan s ≡ after (activities [] s) (λ l. accepted (record { planned = false; activities = l }))
unfolding taken upon followed give
taken_own from_plan s h = rw h

-- ---- what it accepts
abbrev pub TakenThen : Option (List Activity) → Taken → List ℕ → Type 0
TakenThen from_plan r t = RecordsInRange from_plan r.planned r.activities × Follows r.planned r.activities t

module _ (from_plan : Option (List Activity)) where
  taken-reads : (planned : Bool) (l : List Activity) (t : List ℕ) → RecordsInRange from_plan planned l → Follows planned l t
      → taken from_plan (records_bytes planned l ++ t) ≡ accepted (record { planned = planned; activities = l }) t
  unfolding taken upon records_bytes run_bytes from_the_plan followed give
  taken-reads planned l t p f = grind (arith, activities_exact.reads, stands-bytes, mark-yes)

  from_the_plan-only : (m : Option (List Activity)) (s : List ℕ) {r : Taken} {t : List ℕ} → from_the_plan m s ≡ accepted r t
      → (r.planned ≡ true) × (m ≡ some r.activities) × (s ≡ t)
  unfolding from_the_plan give refuse
  from_the_plan-only m s e = grind arith

  -- PL was read, and the plan's records; or own ones
  taken-only : (s : List ℕ) → Bytes s → (r : Taken) (t : List ℕ) → taken from_plan s ≡ accepted r t → TakenThen from_plan r t × (s ≡ records_bytes r.planned r.activities ++ t)
  unfolding taken upon followed give
  taken-only s bs r t q =
      ⊎_elim (λ w.
      let (h, x, u, e, f) = w in
      let g = from_the_plan-only from_plan u f in
      rw g.0 ((g.1, tt), unfold records_bytes in mark-only mark_pl s bs e ∙ rw g.2))
      (λ w.
      let (l, u, e, f) = step (activities [] s) (λ l. accepted (record { planned = false; activities = l })) w.1 in
      let g = activities_exact.only s bs (omega arith) l u e in
      own l u w.0 g.1 g.2 f)
      (chosen (stands (is mark_pl) s) (mark mark_pl s) (λ _. from_the_plan from_plan) _ q)
    where
      own : (l : List Activity) (u : List ℕ) → stands (is mark_pl) s ≡ false → RunInRange l × Over u → s ≡ joined (map activity_bytes l) ++ u
          → accepted (record { planned = false; activities = l }) u ≡ accepted r t → TakenThen from_plan r t × (s ≡ records_bytes r.planned r.activities ++ t)
      own l u h p e w =
          rw (← (was w).0, ← (was w).1) ((p.0, (p.1, unfold run_bytes in rw (← e) h)), unfold records_bytes in e)

  pub taken_exact : Exact 0 Any (taken from_plan) (λ (r : Taken). records_bytes r.planned r.activities) (TakenThen from_plan)
  taken_exact = record {
    reads = λ r t c p. taken-reads r.planned r.activities t p.0 p.1;
    only = λ s bs h r t q. let w = taken-only s bs r t q in (tt, w.0, w.1);
  }
