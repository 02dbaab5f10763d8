-- Which causes each judgement refuses for: the opening its own, a year its own, a dossier those of both.
-- Assumes nothing.
use Rattle.std.proofs.Common.{ℕ, ◌≡◌, Bool, List, [], ◌∷◌, arith}
use mathlib.Core.Option.{Option}
use Rattle.activity.specs.Records.{Activity}
use Rattle.dossier.specs.Causes.{bytes_missing, mark_not_due, activity_out_of_range, too_many_activities, opening_causes, year_causes, ◌∈◌}
use Rattle.dossier.specs.Marks.{mark_en}
use Rattle.dossier.specs.Plan.{Plan}
use Rattle.dossier.specs.Records.{Due}
use Rattle.dossier.specs.Reader.{refused, accepted, Reader, ◌>>=◌, ◌>>◌, give, refuse, mark, upon, present, begin, field, fields, nothing, end_of_piece, followed}
use Rattle.dossier.specs.Judging.{another, dossier, opening_piece, year_piece}
use Rattle.dossier.specs.JudgingPlan.{plan_end}
use Rattle.dossier.proofs.CauseLaws.{listed, dossier_causes, opening_part, year_part}
use Rattle.dossier.proofs.Walk.{Closed, openings, one_activity, a-year, some_years}

-- what a reader refuses, it refuses for one of these causes
abbrev pub Numbered : List ℕ → {A : Type 0} → Reader A → Type 0
Numbered allowed r = (s : List ℕ) (n : ℕ) → r s ≡ refused n → n ∈ allowed

-- ---- the steps, where every one of them may miss bytes or find a mark not due
module _ (allowed : List ℕ) (missing : bytes_missing ∈ allowed) (due : mark_not_due ∈ allowed) where
  -- with what is told of each value that r accepts
  told : {A B : Type 0} {r : Reader A} {k : A → Reader B} → Numbered allowed r → ((a : A) (s t : List ℕ) → r s ≡ accepted a t → Numbered allowed (k a))
      → Numbered allowed (r >>= k)
  unfolding followed
  told x f s n e = grind (arith, x s, f)

  bind : {A B : Type 0} {r : Reader A} {k : A → Reader B} → Numbered allowed r → ((a : A) → Numbered allowed (k a)) → Numbered allowed (r >>= k)
  bind x y = told x (λ a s t e. y a)

  seq : {A B : Type 0} {r : Reader A} {q : Reader B} → Numbered allowed r → Numbered allowed q → Numbered allowed (r >> q)
  unfolding followed
  seq x y = bind x (λ _. y)

  choice : {A : Type 0} {r q : Reader A} (kind : ℕ → Bool) → Numbered allowed r → Numbered allowed q → Numbered allowed (upon kind r q)
  unfolding upon
  choice kind x y s n e = grind (arith, x s, y s)

  given : {A : Type 0} (a : A) → Numbered allowed (give a)
  unfolding give
  given a s n e = cc

  refusal : {A : Type 0} (m : ℕ) → m ∈ allowed → Numbered allowed (refuse {A = A} m)
  unfolding refuse
  refusal m c s n e = grind (arith, c)

  marks : (m : ℕ) → Numbered allowed (mark m)
  unfolding mark
  marks m s n e = grind (arith, missing, due)

  presents : (k : ℕ) → Numbered allowed (present k)
  unfolding present
  presents k s n e = grind (arith, missing)

  a-field : (w : ℕ) → Numbered allowed (field w)
  unfolding field
  a-field w s n e = cc

  some_fields : (k w : ℕ) → Numbered allowed (fields k w)
  unfolding fields
  some_fields k w s n e = cc

  nothings : Numbered allowed nothing
  unfolding nothing
  nothings s n e = grind (arith, due)

  piece_ends : Numbered allowed end_of_piece
  unfolding end_of_piece
  piece_ends s n e = grind (arith, missing, nothings s)

  -- however many bytes there are
  abbrev AlwaysNumbered : (A : Type 0) → ℕ → Reader A → Type 0
  AlwaysNumbered A m r = Numbered allowed r

  numbered : Closed (λ n. n ∈ allowed) AlwaysNumbered
  numbered = grind (arith, told, choice, seq, presents, given, refusal, a-field, some_fields, marks, nothings)

  -- ---- one activity record, any other's beginning, and the end of a plan
  an_activity : activity_out_of_range ∈ allowed → too_many_activities ∈ allowed → (before : List Activity) → Numbered allowed (another before)
  an_activity range many = one_activity (λ n. n ∈ allowed) AlwaysNumbered numbered due range many

  begins : (m k : ℕ) → Numbered allowed (begin m k)
  unfolding begin
  begins m k = seq (marks m) (presents k)

  plan-ends : (years : Plan) → Numbered allowed (plan_end years)
  unfolding plan_end
  plan-ends years = seq (marks mark_en) (seq nothings (given years))

  -- ---- the whole, and the pieces, where their own causes are among these
  piece : {A : Type 0} {r : Reader A} → Numbered allowed r → Numbered allowed (r >>= λ a. end_of_piece >> give a)
  piece x = bind x (λ a. seq piece_ends (given a))

  opening_piece_lem : ((n : ℕ) → n ∈ opening_causes → n ∈ allowed) → Numbered allowed opening_piece
  unfolding opening_piece
  opening_piece_lem own = piece (openings (λ n. n ∈ allowed) AlwaysNumbered numbered own)

  year_piece_lem : ((n : ℕ) → n ∈ year_causes → n ∈ allowed) → (due : Due) → Numbered allowed (year_piece due)
  unfolding year_piece
  year_piece_lem own due = piece (a-year (λ n. n ∈ allowed) AlwaysNumbered numbered own due)

  whole : ((n : ℕ) → n ∈ opening_causes → n ∈ allowed) → ((n : ℕ) → n ∈ year_causes → n ∈ allowed) → (plan : Option Plan) → Numbered allowed (dossier plan)
  unfolding dossier
  whole own own' plan =
      bind (openings (λ n. n ∈ allowed) AlwaysNumbered numbered own)
      (λ o. bind (some_years (λ n. n ∈ allowed) AlwaysNumbered numbered own' _ _ _) (λ l. given _))

abbrev pub record_causes : List ℕ
record_causes = bytes_missing ∷ mark_not_due ∷ activity_out_of_range ∷ too_many_activities ∷ []

pub another-causes : (before : List Activity) → Numbered record_causes (another before)
another-causes =
    an_activity record_causes (listed bytes_missing record_causes tt) (listed mark_not_due record_causes tt) (listed activity_out_of_range record_causes tt)
    (listed too_many_activities record_causes tt)

pub begin-causes : (m k : ℕ) → Numbered record_causes (begin m k)
begin-causes = begins record_causes (listed bytes_missing record_causes tt) (listed mark_not_due record_causes tt)

pub plan_end-causes : (years : Plan) → Numbered record_causes (plan_end years)
plan_end-causes = plan-ends record_causes (listed bytes_missing record_causes tt) (listed mark_not_due record_causes tt)

pub opening_piece-causes : Numbered opening_causes opening_piece
opening_piece-causes = opening_piece_lem opening_causes (listed bytes_missing opening_causes tt) (listed mark_not_due opening_causes tt) (λ n h. h)

pub year_piece-causes : (due : Due) → Numbered year_causes (year_piece due)
year_piece-causes = year_piece_lem year_causes (listed bytes_missing year_causes tt) (listed mark_not_due year_causes tt) (λ n h. h)

pub dossier_causes_lem : (plan : Option Plan) → Numbered dossier_causes (dossier plan)
dossier_causes_lem = whole dossier_causes (listed bytes_missing dossier_causes tt) (listed mark_not_due dossier_causes tt) opening_part year_part
