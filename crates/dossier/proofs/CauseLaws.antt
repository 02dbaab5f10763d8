-- Lists of causes: what a computed test says of each, and which lists are parts of others.
-- Assumes nothing.
use Rattle.std.proofs.Common.{ℕ, ◌<◌, refl, Bool, true, false, cond, List, [], ◌∷◌, ◌++◌, eq-eqb, T, eqb, eqb→eq, ltb, ltb→lt, arith}
use Rattle.dossier.specs.Causes.{plan_not_of_form, record_repeated, causes, opening_causes, year_causes, ◌∈◌}

-- whether n is one of these
abbrev pub member : ℕ → List ℕ → Bool
member n [] = false
member n (c ∷ rest) = cond (eqb n c) true (member n rest)

pub listed : (n : ℕ) (l : List ℕ) → T (member n l) → n ∈ l
listed n [] t = t
listed n (c ∷ rest) t = grind (arith, eqb→eq, listed n rest)

-- whether the test holds of each of these
abbrev each : (ℕ → Bool) → List ℕ → Bool
each f [] = true
each f (c ∷ rest) = cond (f c) (each f rest) false

passes : (f : ℕ → Bool) (l : List ℕ) → T (each f l) → (n : ℕ) → n ∈ l → T (f n)
passes f [] t n h = absurd h
passes f (c ∷ rest) t n h = grind (arith, passes f rest)

-- a list whose entries are all in another is a part of it
pub part : (l m : List ℕ) → T (each (λ n. member n m) l) → (n : ℕ) → n ∈ l → n ∈ m
part l m t n h = listed n m (passes (λ n. member n m) l t n h)

-- ---- no cause has the number 0
abbrev pub all_positive : List ℕ → Bool
all_positive l = each (λ n. ltb 0 n) l

pub positive : (l : List ℕ) → T (all_positive l) → (n : ℕ) → n ∈ l → 0 < n
positive l t n h = ltb→lt 0 n (passes (λ n. ltb 0 n) l t n h)

-- ---- a list without the number n
abbrev pub without : ℕ → List ℕ → Bool
without n l = each (λ m. cond (eqb m n) false true) l

pub not_listed : (n : ℕ) (l : List ℕ) → T (without n l) → n ∈ l → ⊥
not_listed n l t h = rw (eq-eqb n n refl) at (passes (λ m. cond (eqb m n) false true) l t n h)

-- ---- the causes of a plan
abbrev pub plan_causes : List ℕ
plan_causes = plan_not_of_form ∷ record_repeated ∷ []

-- ---- the causes of a dossier: those of its opening and of its years, which are all of the table but plan_not_of_form, the list's and the buffer's
abbrev pub dossier_causes : List ℕ
dossier_causes = opening_causes ++ year_causes

pub opening_part : (n : ℕ) → n ∈ opening_causes → n ∈ dossier_causes
opening_part = part opening_causes dossier_causes tt

pub year_part : (n : ℕ) → n ∈ year_causes → n ∈ dossier_causes
year_part = part year_causes dossier_causes tt

pub dossier_part : (n : ℕ) → n ∈ (plan_not_of_form ∷ dossier_causes) → n ∈ causes
dossier_part = part (plan_not_of_form ∷ dossier_causes) causes tt
