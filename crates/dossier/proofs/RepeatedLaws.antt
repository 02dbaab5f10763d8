-- #105: a year's records are refused 14 just where they begin with records as they should be and one that equals one of these, no 61st record and no
-- third CR.
-- Assumes nothing.
use Rattle.std.proofs.Common.{ℕ, zero, suc, ◌+◌, ◌<◌, ◌≤◌, ◌≡◌, ◌∙◌, true, false, ◌↔◌, List, [], ◌∷◌, ◌++◌, append_assoc, append-nil, arith, length, ◌⊎◌, ⊎_elim}
use Rattle.activity.specs.Records.{Activity}
use Rattle.activity.specs.Activity.{ActivityInRange, ActivitiesInRange, residue_one, residues, NoneOf, AllDifferent}
use Rattle.wire.specs.Bytes.{Bytes, joined}
use Rattle.figures.specs.Year.{Year}
use Rattle.dossier.specs.Marks.{mark_pl}
use Rattle.dossier.specs.Layouts.{activity_bytes, fresh}
use Rattle.dossier.specs.Records.{Due}
use Rattle.dossier.specs.Claims.{DueInRange}
use Rattle.dossier.specs.Repeated.{Repeats}
use Rattle.dossier.specs.Reader.{refused, accepted, give, refuse, stands, is, upon, holds, followed}
use Rattle.dossier.specs.Judging.{another, run, activities, year}
use Rattle.wire.proofs.BytesLaws.{bytes_after}
use Rattle.dossier.proofs.CauseLaws.{not_listed}
use Rattle.dossier.proofs.Causes.{another-causes}
use Rattle.dossier.proofs.ActivityLaws.{activity_exact, begins_activity}
use Rattle.dossier.proofs.ResidueLaws.{one_residue_more, another-reads, another-only, another-few}
use Rattle.dossier.proofs.SameLaws.{fresh-none, none-fresh, different-more}
use Rattle.dossier.proofs.RunLaws.{run_bytes, activities_one, activities_continue}
use Rattle.dossier.proofs.TakenLaws.{run-not-planned, taken_own}
use Rattle.dossier.proofs.YearLaws.{TablesInRange, tables_bytes, records-refused}

-- ---- such records are refused
repeated : (l : List Activity) (a : Activity) → (NoneOf l a → ⊥) → fresh l a ≡ false
repeated l a f = grind (arith, fresh-none)

pub repeats-refused : (s : List ℕ) → Repeats s → activities [] s ≡ refused 14
unfolding run_bytes
repeats-refused s r =
    let u = activity_bytes r.again ++ r.rest in
    let d = r.in_order.different in
    let few : residues (r.before ++ (r.again ∷ [])) ≤ 2 = omega (arith, one_residue_more r.before r.again, r.not_third) in
    rw r.encoded
    (activities_continue [] r.before u (omega (arith, r.room)) r.in_order.residue_count r.in_order.each d
    ∙ activities_one r.before u r.room (begins_activity r.again r.rest) (another-reads r.before r.again r.rest r.in_range few)
    ∙ rw (repeated r.before r.again r.equal))

-- ---- and what is refused 14 is such records: after those before, fewer than k more, and one that equals one of all these
record RepeatsAfter (k : ℕ) (before : List Activity) (s : List ℕ) : Type 0 where
  more : List Activity
  count : length more < k
  each : ActivitiesInRange more
  different : AllDifferent before → AllDifferent (before ++ more)
  again : Activity
  not_third : residues before ≤ 2 → residues (before ++ more) + residue_one again ≤ 2
  in_range : ActivityInRange again
  equal : fresh (before ++ more) again ≡ false
  rest : List ℕ
  encoded : s ≡ run_bytes more ++ (activity_bytes again ++ rest)

-- at once, or after one record more
at_once : (k : ℕ) (before : List Activity) (s : List ℕ) (a : Activity) (u : List ℕ) → ActivityInRange a → (residues before ≤ 2 → residues (before ++ (a ∷ [])) ≤ 2)
    → s ≡ activity_bytes a ++ u → fresh before a ≡ false → RepeatsAfter (suc k) before s
unfolding run_bytes joined
at_once k before s a u p c e f = record {
  more = [];
  count = omega arith;
  each = tt;
  different = λ d. rw append-nil d;
  again = a;
  not_third = λ h. rw (append-nil, ← one_residue_more before a) (c h);
  in_range = p;
  equal = rw append-nil f;
  rest = u;
  encoded = e;
}

one_more_lem : (k : ℕ) (before : List Activity) (s : List ℕ) (a : Activity) (u : List ℕ) → ActivityInRange a → (residues before ≤ 2 → residues (before ++ (a ∷ [])) ≤ 2)
    → s ≡ activity_bytes a ++ u → fresh before a ≡ true → RepeatsAfter k (before ++ (a ∷ [])) u → RepeatsAfter (suc k) before s
unfolding run_bytes joined
one_more_lem k before s a u p c e f r = grind (arith, append_assoc, different-more, fresh-none)

-- of those still read, one is read: it equals one of those before, or what is refused comes after it
next_read : (k : ℕ) (before : List Activity) (s : List ℕ) → run (suc k) before s ≡ refused 14
    → (a : Activity) × (u : List ℕ) × (another before s ≡ accepted a u) × ((fresh before a ≡ false) ⊎ ((fresh before a ≡ true) × (run k (before ++ (a ∷ [])) u ≡ refused 14)))
unfolding run upon give refuse holds followed
next_read k before s q = grind (arith, not_listed, another-causes)

run-repeats : (k : ℕ) (before : List Activity) (s : List ℕ) → Bytes s → run k before s ≡ refused 14 → RepeatsAfter k before s
unfolding run upon give refuse followed
run-repeats zero before s bs q = absurd (grind arith)
run-repeats (suc k) before s bs q =
    let (a, u, e, f) = next_read k before s q in
    let g = activity_exact.only s bs (omega arith) a u (another-only before s e) in
    let few = another-few before s e in
    let b : Bytes u = bytes_after (activity_bytes a) u (rw g.2 at bs) in
    ⊎_elim (at_once k before s a u g.1 few g.2) (λ h. one_more_lem k before s a u g.1 few g.2 h.0 (run-repeats k (before ++ (a ∷ [])) u b h.1)) f

pub refused-repeats : (s : List ℕ) → Bytes s → activities [] s ≡ refused 14 → Repeats s
unfolding activities run_bytes
refused-repeats s bs q =
    let r = run-repeats 60 [] s bs q in
    grind (arith, none-fresh)

pub repeats : (s : List ℕ) → Bytes s → (activities [] s ≡ refused 14) ↔ Repeats s
repeats s bs = (refused-repeats s bs, repeats-refused s)

-- ---- at its place, whatever follows: in a year after its tables
repeats-not-planned : (r : List ℕ) → Repeats r → stands (is mark_pl) r ≡ false
unfolding run_bytes
repeats-not-planned r q = rw q.encoded (run-not-planned q.before _ (begins_activity q.again q.rest))

pub year-repeats : (due : Due) → DueInRange due → (y : Year) → TablesInRange due y → (r : List ℕ) → Repeats r → year due (tables_bytes y ++ r) ≡ refused 14
year-repeats due h y p r q = records-refused due h y p r 14 (taken_own _ r (repeats-not-planned r q) ∙ rw (repeats-refused r q))
