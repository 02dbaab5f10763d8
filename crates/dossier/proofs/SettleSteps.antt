-- Each step of a reader is settled by a few bytes.
-- Assumes nothing.
use Rattle.std.proofs.Common.{ℕ, zero, suc, ◌+◌, ◌*◌, ◌≤◌, ◌≡◌, refl, Bool, true, false, cond, List, ◌++◌, arith, lt-ltb, le-ltb, eqb, length, drop, length-append, length-drop}
use lib.Seq.{take-append-le, drop-append-le}
use Rattle.wire.specs.Bytes.{numbers}
use Rattle.dossier.specs.Reader.{Judged, refused, accepted, Reader, after, ◌>>=◌, ◌>>◌, give, refuse, mark, stands, upon, present, field, fields, nothing, followed}
use Rattle.dossier.proofs.ReaderLaws.{present-yes, stands_here}
use Rattle.dossier.proofs.Walk.{Closed}

-- the same judgement, and t is left over too
abbrev pub and_left : {A : Type 0} → List ℕ → Judged A → Judged A
and_left t (refused n) = refused n
and_left t (accepted a u) = accepted a (u ++ t)

-- l bytes at least are left over
abbrev pub Leaves : {A : Type 0} → ℕ → Judged A → Type 0
Leaves l (refused n) = Unit {0}
Leaves l (accepted a u) = l ≤ length u

-- m bytes settle r: what follows them is left over, and no more than m are read
pub record Settles {A : Type 0} (m : ℕ) (r : Reader A) : Type 0 where
  pub alike : (s t : List ℕ) → m ≤ length s → r (s ++ t) ≡ and_left t (r s)
  pub leaves : (s : List ℕ) (l : ℕ) → m + l ≤ length s → Leaves l (r s)

-- ---- readers made of others
pub bind-alike : {A B : Type 0} {m : ℕ} {r : Reader A} (k : A → Reader B) → Settles m r → (n : ℕ) (s t : List ℕ) → m + n ≤ length s
    → ((a : A) (u : List ℕ) → r s ≡ accepted a u → n ≤ length u → k a (u ++ t) ≡ and_left t (k a u)) → (r >>= k) (s ++ t) ≡ and_left t ((r >>= k) s)
unfolding followed
bind-alike k x n s t h f = grind (arith, x.alike s t, x.leaves s n, f)

pub bind : {A B : Type 0} {m n : ℕ} {r : Reader A} {k : A → Reader B} → Settles m r → ((a : A) → Settles n (k a)) → Settles (m + n) (r >>= k)
unfolding followed
bind {A} {B} {m} {n} {r} {k} x y = record {
  alike = λ s t h. bind-alike k x n s t h (λ a u e l. (y a).alike u t l);
  leaves = λ s l h. go l (r s) (x.leaves s (n + l) (omega arith));
}
  where
    go : (l : ℕ) (j : Judged A) → Leaves (n + l) j → Leaves l (after j k)
    go l (refused c) h = tt
    go l (accepted a u) h = (y a).leaves u l h

-- with what is told of each value that r accepts
told : {A B : Type 0} {m most : ℕ} {r : Reader A} {k : A → Reader B} → Settles m r → m ≤ most
    → ((a : A) (s t : List ℕ) → r s ≡ accepted a t → (n : ℕ) × Settles n (k a) × (length s + n ≤ most + length t)) → Settles most (r >>= k)
unfolding followed
told {A} {B} {m} {most} {r} {k} x g f = record {
  alike = λ s t h. bind-alike k x 0 s t (omega arith) (λ a u e l. let (n, y, i) = f a s u e in y.alike u t (omega arith));
  leaves = λ s l h. go s l h (r s) refl;
}
  where
    go : (s : List ℕ) (l : ℕ) → most + l ≤ length s → (j : Judged A) → r s ≡ j → Leaves l (after j k)
    go s l h (refused c) e = tt
    go s l h (accepted a u) e = let (n, y, i) = f a s u e in y.leaves u l (omega arith)

-- more bytes settle it too
more : {A : Type 0} {m n : ℕ} {r : Reader A} → Settles m r → m ≤ n → Settles n r
more x h = record { alike = λ s t l. x.alike s t (omega arith); leaves = λ s l k. x.leaves s l (omega arith) }

-- a reader that does the same where there are m bytes
instead : {A : Type 0} {m : ℕ} {r q : Reader A} → Settles m q → ((s : List ℕ) → m ≤ length s → r s ≡ q s) → Settles m r
instead {m = m} x f = record {
  alike = λ s t h.
      let g : m ≤ length (s ++ t) = simp length-append (omega arith) in
      rw (f (s ++ t) g, f s h) (x.alike s t h);
  leaves = λ s l h. rw (f s (omega arith)) (x.leaves s l h);
}

either : {A : Type 0} {m : ℕ} {r q : Reader A} (b : Bool) → Settles m r → Settles m q → Settles m (λ s. cond b (r s) (q s))
either true x y = x
either false x y = y

stands_alike : (kind : ℕ → Bool) (s t : List ℕ) → 2 ≤ length s → stands kind (s ++ t) ≡ stands kind s
stands_alike kind s t h = grind (arith, take-append-le, stands_here, length-append {A = ℕ})

choice : {A : Type 0} {m : ℕ} {r q : Reader A} (kind : ℕ → Bool) → Settles m r → Settles m q → 2 ≤ m → Settles m (upon kind r q)
unfolding upon
choice kind x y h = record {
  alike = λ s t l. rw (stands_alike kind s t (omega arith)) ((either (stands kind s) x y).alike s t l);
  leaves = λ s. (either (stands kind s) x y).leaves s;
}

-- ---- the steps
pub given : {A : Type 0} (a : A) → Settles 0 (give a)
unfolding give
given a = record { alike = λ s t h. refl; leaves = λ s l h. omega arith }

refusal : {A : Type 0} (n : ℕ) → Settles 0 (refuse {A = A} n)
unfolding refuse
refusal n = record { alike = λ s t h. refl; leaves = λ s l h. tt }

a-field : (w : ℕ) → Settles w (field w)
unfolding field
a-field w = grind (arith, take-append-le, drop-append-le, length-drop {A = ℕ})

numbers-alike : (k w : ℕ) (s t : List ℕ) → k * w ≤ length s → numbers k w (s ++ t) ≡ numbers k w s
unfolding numbers
numbers-alike zero w s t h = grind arith
numbers-alike (suc k) w s t h = grind (arith, take-append-le, drop-append-le, numbers-alike k w (drop w s) t (simp length-drop (omega arith)))

some_fields : (k w : ℕ) → Settles (k * w) (fields k w)
unfolding fields
some_fields k w = grind (arith, numbers-alike, drop-append-le, length-drop {A = ℕ})

-- a mark is a field of two bytes
marks : (m : ℕ) → Settles 2 (mark m)
unfolding mark field give refuse followed
marks m = instead (bind (a-field 2) (λ x. either (eqb x m) (given tt) (refusal 2))) (λ s h. rw (le-ltb _ _ h))

-- bytes present are left to the reader after
presents : {A : Type 0} {n k : ℕ} {r : Reader A} → Settles k r → n ≤ k → Settles k (present n >> r)
unfolding followed
presents {n = n} x g = instead x (λ s h. rw (present-yes n s (omega arith)))

nothings : Settles 1 nothing
unfolding nothing refuse
nothings = instead (more (refusal 2) (omega arith)) (λ s h. rw (lt-ltb 0 (length s) h))

abbrev pub SettledBy : (A : Type 0) → ℕ → Reader A → Type 0
SettledBy A m r = Settles m r

-- whatever the causes
abbrev pub AnyCause : ℕ → Type 0
AnyCause n = Unit {0}

pub settles : Closed AnyCause SettledBy
settles = search (bind, told, more, choice, presents, given, refusal, a-field, some_fields, marks, nothings)
