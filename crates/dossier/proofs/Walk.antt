-- One walk over the readers: what every step of a reader has, and every reader made of such, the reader of each record has, of the run, of the years.
-- Assumes nothing.
use Rattle.std.proofs.Common.{ℕ, zero, suc, ◌+◌, ◌*◌, ◌-◌, ◌≤◌, ◌≡◌, Bool, true, false, cond, List, [], ◌∷◌, ◌++◌, arith, T, ltb, eqb, lit≤, length}
use mathlib.Core.Option.{Option, none}
use Rattle.activity.specs.Records.{Activity}
use Rattle.activity.specs.Activity.{Range, ranges, residues}
use Rattle.figures.specs.Year.{Year}
use Rattle.wire.specs.Bytes.{total}
use Rattle.dossier.specs.Causes.{mark_not_due, head_out_of_range, stock_out_of_range, area_total_wrong, row_sum_wrong, year_wrong, conversion_total_wrong}
use Rattle.dossier.specs.Causes.{activity_out_of_range, too_many_activities, planned_year_wrong, record_repeated, opening_causes, year_causes, ◌∈◌}
use Rattle.dossier.specs.Marks.{mark_st, mark_yr, mark_pl, mark_en}
use Rattle.dossier.specs.Layouts.{Made, Layout, layouts}
use Rattle.dossier.specs.Records.{Due, next}
use Rattle.dossier.specs.Reader.{accepted, Reader, ◌>>=◌, ◌>>◌, give, refuse, mark, is, upon, if_any, present, begin, field, fields, outside, within, equal, holds, nothing, followed}
use Rattle.dossier.specs.JudgingRecords.{head, each, stocks, stocks_if_any, areas, matrix, matrix_under, conversions, in_range, made_from, fields_of, row_under, activity_mark, activity_under, activity}
use Rattle.dossier.specs.Judging.{opening, another, run, activities, from_the_plan, taken, none_left, year_records, year_left, year, end, years}
use Rattle.dossier.proofs.ReaderLaws.{bind-bind}
use Rattle.dossier.proofs.CauseLaws.{member, listed}
use Rattle.dossier.proofs.ActivityLaws.{size_most, activity_took}
use Rattle.dossier.proofs.ResidueLaws.{ordinary, ordinary_activity, only-ordinary, one_residue_more, another-only, another-few}

-- P m r: the reader r, which m bytes are enough for and which refuses for allowed causes alone, has P. What P has to have:
pub record Closed (Allowed : ℕ → Type 0) (P : (A : Type 0) → ℕ → Reader A → Type 0) : Type 1 where
  pub bind : {A B : Type 0} {m n : ℕ} {r : Reader A} {k : A → Reader B} → P _ m r → ((a : A) → P _ n (k a)) → P _ (m + n) (r >>= k)
  -- with what is told of each value that r accepts: the bytes that it took and those enough for k are no more than most
  pub told : {A B : Type 0} {m most : ℕ} {r : Reader A} {k : A → Reader B} → P _ m r → m ≤ most
      → ((a : A) (s t : List ℕ) → r s ≡ accepted a t → (n : ℕ) × P _ n (k a) × (length s + n ≤ most + length t)) → P _ most (r >>= k)
  pub more : {A : Type 0} {m n : ℕ} {r : Reader A} → P _ m r → m ≤ n → P _ n r
  pub choice : {A : Type 0} {m : ℕ} {r q : Reader A} (kind : ℕ → Bool) → P _ m r → P _ m q → 2 ≤ m → P _ m (upon kind r q)
  pub present : {A : Type 0} {m n : ℕ} {r : Reader A} → P _ m r → n ≤ m → P _ m (present n >> r)
  pub give : {A : Type 0} (a : A) → P _ 0 (give a)
  pub refuse : {A : Type 0} (n : ℕ) → Allowed n → P _ 0 (refuse {A = A} n)
  pub field : (w : ℕ) → P _ w (field w)
  pub fields : (k w : ℕ) → P _ (k * w) (fields k w)
  pub mark : (m : ℕ) → P _ 2 (mark m)
  pub nothing : P _ 1 nothing

-- the fields of each row have at most so many bytes
abbrev Short : ℕ → List Layout → Type 0
Short most [] = Unit {0}
Short most (l ∷ rest) = (total l.widths ≤ most) × Short most rest

-- a record that begins, and its fields
begin_then : {A : Type 0} (m n : ℕ) (r : Reader A) → ◌≡◌ {A = Reader A} (begin m n >> r) (mark m >> (present n >> r))
unfolding begin followed
begin_then m n r = λ i s. bind-bind (mark m s) (λ _. present n) (λ _. r) i

module _ (Allowed : ℕ → Type 0) (P : (A : Type 0) → ℕ → Reader A → Type 0) (c : Closed Allowed P) where
  -- ---- the other steps
  seq : {A B : Type 0} {m n : ℕ} {r : Reader A} {q : Reader B} → P _ m r → P _ n q → P _ (m + n) (r >> q)
  unfolding followed
  seq x y = c.bind x (λ _. y)

  one_of : {A : Type 0} {m : ℕ} {r q : Reader A} (b : Bool) → P _ m r → P _ m q → P _ m (cond b r q)
  one_of b x y = grind arith

  tested : {A : Type 0} {m : ℕ} {r q : Reader A} (b : Bool) → P _ m r → P _ m q → P _ m (λ s. cond b (r s) (q s))
  tested true x y = x
  tested false x y = y

  withins : (n low x high : ℕ) → Allowed n → P _ 0 (within n low x high)
  unfolding within refuse give
  withins n low x high h = tested (outside low x high) (c.refuse n h) (c.give tt)

  equals : (n x y : ℕ) → Allowed n → P _ 0 (equal n x y)
  unfolding equal refuse give
  equals n x y h = tested (eqb x y) (c.give tt) (c.refuse n h)

  held : (n : ℕ) (b : Bool) → Allowed n → P _ 0 (holds n b)
  unfolding holds refuse give
  held n b h = tested b (c.give tt) (c.refuse n h)

  all_of : (k : ℕ) {test : ℕ → Reader (Unit {0})} → ((i : ℕ) → P _ 0 (test i)) → P _ 0 (each k test)
  unfolding each
  all_of zero x = c.give tt
  all_of (suc k) x = seq (all_of k x) (x k)

  begins : {A : Type 0} {n k : ℕ} {r : Reader A} (m : ℕ) → P _ k r → n ≤ k → P _ (2 + k) (begin m n >> r)
  begins {A} {n} {k} {r} m x h = rw (begin_then m n r) (seq (c.mark m) (c.present x h))

  -- a record whose fields are all of its bytes
  a_record : {A : Type 0} {n : ℕ} {r : Reader A} (m : ℕ) → P _ n r → P _ (2 + n) (begin m n >> r)
  a_record m x = begins m x (omega arith)

  -- ---- the opening, where its own causes are allowed
  module _ (own : (n : ℕ) → n ∈ opening_causes → Allowed n) where
    of-opening : {n : ℕ} → T (member n opening_causes) → Allowed n
    of-opening {n} t = own n (listed n opening_causes t)

    heads : P _ 6 head
    unfolding head
    heads =
        a_record _ (c.bind (c.field 1) (λ o. c.bind (c.field 2) (λ f. c.bind (c.field 1) (λ y.
        seq (withins head_out_of_range _ _ _ (of-opening tt)) (seq (withins head_out_of_range _ _ _ (of-opening tt)) (seq (withins head_out_of_range _ _ _ (of-opening tt)) (c.give _)))))))

    some_areas : (m least : ℕ) → P _ 98 (areas m least)
    unfolding areas
    some_areas m least = a_record _ (c.bind (c.fields 12 8) (λ xs. seq (withins area_total_wrong _ _ _ (of-opening tt)) (c.give _)))

    under : (option : ℕ) → P _ 578 (matrix_under option)
    unfolding matrix_under if_any matrix
    under option =
        tested (eqb option 2) (c.bind (a_record _ (c.bind (c.fields 144 4) (λ xs. seq (all_of _ (λ i. equals row_sum_wrong _ _ (of-opening tt))) (c.give _)))) (λ xs. c.give _))
        (c.more (c.give none) (omega arith))

    -- ST or, where another mark stands, the two bytes of that
    if_filed : P _ 26 stocks_if_any
    unfolding stocks_if_any if_any stocks upon
    if_filed =
        c.choice (is mark_st) (c.bind (a_record _ (c.bind (c.fields 12 2) (λ xs.
        seq (all_of _ (λ i. withins stock_out_of_range _ _ _ (of-opening tt))) (seq (equals stock_out_of_range _ _ (of-opening tt)) (c.give _))))) (λ xs. c.give _))
        (c.more (c.give none) (omega arith)) (omega arith)

    pub openings : P _ 806 opening
    unfolding opening
    openings =
        c.bind heads (λ h. c.bind if_filed (λ s. c.bind (some_areas _ _) (λ p. c.bind (some_areas _ _) (λ b. c.bind (under h.option) (λ m. c.give _)))))

  -- ---- an activity record: any row of the table, any table
  module _ (other : Allowed mark_not_due) (range : Allowed activity_out_of_range) (many : Allowed too_many_activities) where
    in_range_lem : (rs : List Range) (a : Activity) → P _ 0 (in_range rs a)
    unfolding in_range
    in_range_lem [] a = c.give a
    in_range_lem (r ∷ rest) a = seq (withins activity_out_of_range _ _ _ range) (in_range_lem rest a)

    made_from_lem : (widths : List ℕ) (made : Made widths) → P _ (total widths) (made_from widths made)
    unfolding total
    made_from_lem [] a = in_range_lem (ranges a) a
    made_from_lem (w ∷ widths) made = c.bind (c.field w) (λ x. made_from_lem widths (made x))

    some_row : (most : ℕ) (table : List Layout) → Short most table → (m : ℕ) → P _ most (row_under table m)
    unfolding fields_of
    some_row most [] f m = c.more (c.refuse mark_not_due other) (omega arith)
    some_row most (l ∷ rest) f m =
        one_of (is l.mark m) (c.more (c.present (made_from_lem l.widths l.made) (omega arith)) f.0) (some_row most rest f.1 m)

    any_activity : P _ 21 activity
    unfolding activity activity_under total
    any_activity = c.present (c.bind (c.field 2) (some_row 19 layouts (lit≤ tt, (lit≤ tt, (lit≤ tt, (lit≤ tt, (lit≤ tt, tt))))))) (omega arith)

    ordinary_one : P _ 15 ordinary_activity
    unfolding ordinary_activity total
    ordinary_one = c.present (c.bind (c.field 2) (some_row 13 ordinary (lit≤ tt, (lit≤ tt, (lit≤ tt, (lit≤ tt, tt)))))) (omega arith)

    -- after two of CR it is an ordinary one
    pub one_activity : (before : List Activity) → P _ (cond (ltb 1 (residues before)) 15 21) (another before)
    unfolding another
    one_activity before = grind (arith, only-ordinary, ordinary_one, any_activity)

  -- ---- the years, where their own causes are allowed
  module _ (own : (n : ℕ) → n ∈ year_causes → Allowed n) where
    of-year : {n : ℕ} → T (member n year_causes) → Allowed n
    of-year {n} t = own n (listed n year_causes t)

    -- k activity records, of which CR has six bytes more than any other, and the mark after them
    abbrev run_size : (k : ℕ) → List Activity → ℕ
    run_size k before = k * 15 + 6 * (2 - residues before) + 2

    one_fits : (k : ℕ) (before : List Activity) → residues before ≤ 2 → cond (ltb 1 (residues before)) 15 21 ≤ run_size (suc k) before
    one_fits k before few = grind arith

    runs : (k : ℕ) (before : List Activity) → residues before ≤ 2 → P _ (run_size k before) (run k before)
    unfolding run
    runs zero before few =
        c.choice activity_mark (c.more (c.refuse too_many_activities (of-year tt)) (omega arith)) (c.more (c.give before) (omega arith)) (omega arith)
    runs (suc k) before few =
        c.choice activity_mark (c.told (one_activity (of-year tt) (of-year tt) (of-year tt) before) (one_fits k before few) (λ a s t e.
        let still = another-few before s e few in (
          0 + run_size k (before ++ (a ∷ [])),
          seq (held record_repeated _ (of-year tt)) (runs k (before ++ (a ∷ [])) still),
          omega (arith, still, one_residue_more before a, activity_took s (another-only before s e), size_most a),
        )))
        (c.more (c.give before) (omega arith)) (omega arith)

    none_lefts : {A : Type 0} → P _ 6 (none_left {A = A})
    unfolding none_left
    none_lefts = a_record _ (c.more (c.refuse year_wrong (of-year tt)) (omega arith))

    some_conversions : (m settled_total : ℕ) → P _ 1154 (conversions m settled_total)
    unfolding conversions
    some_conversions m settled_total = a_record _ (c.bind (c.fields 144 8) (λ xs. seq (equals conversion_total_wrong _ _ (of-year tt)) (c.give _)))

    from_the_plan_lem : (from_plan : Option (List Activity)) → P _ 0 (from_the_plan from_plan)
    unfolding from_the_plan
    from_the_plan_lem from_plan = grind arith

    -- own records, or PL
    records-taken : (from_plan : Option (List Activity)) → P _ 914 (taken from_plan)
    unfolding taken activities
    records-taken from_plan =
        c.choice (is mark_pl) (c.more (seq (c.mark mark_pl) (from_the_plan_lem from_plan)) (omega arith)) (c.bind (runs 60 [] (omega arith)) (λ l. c.give _)) (omega arith)

    years-records : (from_plan : Option (List Activity)) (due_year left start beltstart : ℕ) → P _ 3228 (year_left from_plan due_year left start beltstart)
    unfolding year_left year_records
    years-records from_plan due_year left start beltstart =
        one_of (eqb left 0) (c.more none_lefts (omega arith))
        (begins _ (c.bind (c.field 2) (λ y. c.bind (c.field 2) (λ d. seq (equals year_wrong _ _ (of-year tt)) (seq (withins year_wrong _ _ _ (of-year tt))
        (c.bind (some_conversions _ _) (λ p. c.bind (some_conversions _ _) (λ b. c.bind (records-taken from_plan) (λ l. c.give _)))))))) (omega arith))

    pub a-year : (due : Due) → P _ 3228 (year due)
    unfolding year
    a-year due = c.bind (years-records _ _ _ _ _) (λ y. seq (held planned_year_wrong _ (of-year tt)) (c.give y))

    -- k years; then EN and a byte after it, or YR with its fields
    pub some_years : (k : ℕ) (due : Due) (before : List Year) → P _ (k * 3228 + 6) (years k due before)
    unfolding years end
    some_years zero due before = seq (c.choice (is mark_yr) none_lefts (c.more (seq (c.mark mark_en) c.nothing) (omega arith)) (omega arith)) (c.give before)
    some_years (suc k) due before = c.more (c.bind (a-year due) (λ y. some_years k (next y due) (before ++ (y ∷ [])))) (omega arith)
