-- The run of activity records: the equation that defines it, and what it accepts.
-- Assumes nothing.
use Rattle.std.proofs.Common.{ℕ, zero, suc, ◌+◌, ◌-◌, ◌<◌, ◌≤◌, ◌≡◌, refl, ◌∙◌, ap, sym, true, false, cond, ◌⊎◌, ⊎_elim, List}
use Rattle.std.proofs.Common.{[], ◌∷◌, ◌++◌, map, append_assoc, append-nil, arith, ltb, length, length-append, le-ltb, lt-ltb}
use Rattle.activity.specs.Records.{Activity}
use Rattle.activity.specs.Activity.{ActivityInRange, ActivitiesInRange, residues, NoneOf, AllDifferent, RunInRange}
use Rattle.wire.specs.Bytes.{Bytes, joined}
use Rattle.dossier.specs.Layouts.{activity_bytes, fresh}
use Rattle.dossier.specs.Reader.{refused, accepted, Reader, ◌>>=◌, ◌>>◌, give, refuse, stands, upon, holds, followed}
use Rattle.dossier.specs.JudgingRecords.{activity_mark}
use Rattle.dossier.specs.Judging.{third_residue, another, run, activities}
use Rattle.wire.proofs.BytesLaws.{bytes_after}
use Rattle.dossier.proofs.ReaderLaws.{held-only, chosen}
use Rattle.dossier.proofs.Exact.{Exact}
use Rattle.dossier.proofs.ExactParts.{Any}
use Rattle.dossier.proofs.ActivityLaws.{activity_exact, begins_activity}
use Rattle.dossier.proofs.ResidueLaws.{residues-append, third_activity, another_third, another-reads, another-only, another-few}
use Rattle.dossier.proofs.SameLaws.{fresh-none, none-fresh, different-more, different-at}

-- the run after one more record, if it is none of those before
abbrev pub one_more : List Activity → Activity → Reader (List Activity)
one_more before a = holds 14 (fresh before a) >> activities (before ++ (a ∷ []))

-- the run without a count: where an activity mark stands, the 61st is 9, and another is read, a third CR excepted, which
-- is 14 where it is one of those before, and the run goes on after it; elsewhere the run is over
pub activities_are : (before : List Activity) (s : List ℕ)
    → activities before s ≡ upon activity_mark (cond (ltb (length before) 60) (another before >>= one_more before) (refuse 9)) (give before) s
activities_are before s = unfold activities in go (60 - length before) refl
  where
    one_less : (k : ℕ) → 60 - length before ≡ suc k → (a : Activity) → k ≡ 60 - length (before ++ (a ∷ []))
    one_less k e a = simp length-append (omega arith)

    go : (k : ℕ) → 60 - length before ≡ k → run k before s ≡ upon activity_mark (cond (ltb (length before) 60) (another before >>= one_more before) (refuse 9)) (give before) s
    go zero e = unfold run in rw (le-ltb (length before) 60 (omega arith))
    go (suc k) e =
        unfold activities run in
        rw (lt-ltb (length before) 60 (omega arith))
        (ap (λ (f : Activity → Reader (List Activity)). upon activity_mark (another before >>= f) (give before) s)
        (λ i a. holds 14 (fresh before a) >> run (one_less k e a i) (before ++ (a ∷ []))))

-- a record that is read: the run goes on after it, or it is one of those before and 14
module _ (before : List Activity) (s : List ℕ) {a : Activity} {u : List ℕ} (h : length before < 60) (m : stands activity_mark s ≡ true) (e : another before s ≡ accepted a u) where
  pub activities_one : activities before s ≡ cond (fresh before a) (activities (before ++ (a ∷ [])) u) (refused 14)
  unfolding upon holds followed
  activities_one = grind (arith, activities_are)

  pub activities-step : NoneOf before a → activities before s ≡ activities (before ++ (a ∷ [])) u
  activities-step k = activities_one ∙ rw (none-fresh before a k)

-- a record too many: the 61st, or a third CR
abbrev pub TooMany : List Activity → List ℕ → Type 0
TooMany before s = ((60 ≤ length before) × (stands activity_mark s ≡ true)) ⊎ (stands (third_residue before) s ≡ true)

-- its mark alone gives 9, whatever follows it
pub too_many : (before : List Activity) (s : List ℕ) → TooMany before s → activities before s ≡ refused 9
unfolding upon refuse followed
too_many before s = grind (arith, activities_are, third_activity, another_third)

-- no activity mark stands before t
abbrev pub Over : List ℕ → Type 0
Over t = stands activity_mark t ≡ false

unfoldable pub run_bytes : List Activity → List ℕ
run_bytes l = joined (map activity_bytes l)

pub activities-over : (before : List Activity) (t : List ℕ) → Over t → activities before t ≡ accepted before t
unfolding upon give
activities-over before t o = activities_are before t ∙ rw o

-- records in range are read, and the run goes on at what follows them
pub activities_continue : (before l : List Activity) (t : List ℕ) → length before + length l ≤ 60 → residues (before ++ l) ≤ 2 → ActivitiesInRange l
    → AllDifferent (before ++ l) → activities before (run_bytes l ++ t) ≡ activities (before ++ l) t
unfolding run_bytes joined
activities_continue before [] t n c p d = rw append-nil
activities_continue before (a ∷ l) t n c p d =
    let few : residues ((before ++ (a ∷ [])) ++ l) ≤ 2 = rw append_assoc c in
    let read = another-reads before a (run_bytes l ++ t) p.0 (omega (arith, few, residues-append (before ++ (a ∷ [])) l)) in
    let m : length (before ++ (a ∷ [])) + length l ≤ 60 = simp length-append (omega arith) in
    let later : AllDifferent ((before ++ (a ∷ [])) ++ l) = rw append_assoc d in
    grind (arith, append_assoc, activities-step, begins_activity, different-at, activities_continue (before ++ (a ∷ [])) l t m few p.1 later)

-- l was read after before, and t follows
record Ran (k : ℕ) (before : List Activity) (s : List ℕ) (all : List Activity) (t : List ℕ) : Type 0 where
  more : List Activity
  whole : all ≡ before ++ more
  count : length more ≤ k
  residue_count : residues before ≤ 2 → residues all ≤ 2
  each : ActivitiesInRange more
  different : AllDifferent before → AllDifferent all
  over : Over t
  encoded : s ≡ run_bytes more ++ t

stopped : (k : ℕ) (before : List Activity) (s : List ℕ) (all : List Activity) (t : List ℕ) → Over s → accepted before s ≡ accepted all t → Ran k before s all t
unfolding run_bytes joined
stopped k before s all t o q = grind (arith, append-nil)

one_more_lem : (k : ℕ) (before : List Activity) (s : List ℕ) (a : Activity) (u : List ℕ) (all : List Activity) (t : List ℕ) → ActivityInRange a
    → (residues before ≤ 2 → residues (before ++ (a ∷ [])) ≤ 2) → NoneOf before a → s ≡ activity_bytes a ++ u → Ran k (before ++ (a ∷ [])) u all t → Ran (suc k) before s all t
unfolding run_bytes joined
one_more_lem k before s a u all t p c f e r = grind (arith, append_assoc, different-more)

run_only : (k : ℕ) (before : List Activity) (s : List ℕ) → Bytes s → (all : List Activity) (t : List ℕ) → run k before s ≡ accepted all t → Ran k before s all t
unfolding run upon give refuse followed
run_only zero before s bs all t q = stopped 0 before s all t (grind arith) (grind arith)
run_only (suc k) before s bs all t q =
    ⊎_elim (λ w.
    let (h, a, u, e, r) = w in
    let g = activity_exact.only s bs (omega arith) a u (another-only before s e) in
    let f = held-only 14 (fresh before a) (run k (before ++ (a ∷ []))) u r in
    let later = run_only k (before ++ (a ∷ [])) u (bytes_after (activity_bytes a) u (rw g.2 at bs)) all t f.1 in
    one_more_lem k before s a u all t g.1 (another-few before s e) (fresh-none before a f.0) g.2 later)
    (λ w. stopped (suc k) before s all t w.0 w.1)
    (chosen (stands activity_mark s) (another before s) (λ a. holds 14 (fresh before a) >> run k (before ++ (a ∷ []))) _ q)

-- a year's activity records, and no activity mark after them
abbrev pub RunThen : List Activity → List ℕ → Type 0
RunThen l t = RunInRange l × Over t

pub activities_exact : Exact 0 Any (activities []) (λ l. joined (map activity_bytes l)) RunThen
unfolding activities run_bytes
activities_exact = record {
  reads = λ l t c p. grind (arith, activities_continue [] l t, activities-over);
  only = λ s bs h l t q. let r = run_only _ [] s bs l t q in (tt, first r, r.encoded ∙ ap (λ (x : List Activity). run_bytes x ++ t) (sym r.whole));
}
  where
    first : {s : List ℕ} {l : List Activity} {t : List ℕ} → Ran (60 - 0) [] s l t → RunThen l t
    first r = grind arith
