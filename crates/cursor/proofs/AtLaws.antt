-- Readers at a place of the bytes, from what a number says of them and from the fields that stand there.
-- Assumes nothing.
use Prim.Native.Nat.{ℕ, ◌+◌, ◌*◌, ◌-◌}
use mathlib.Core.Path.{◌≡◌, refl}
use mathlib.Core.Bool.{Bool, true, false, cond}
use mathlib.Core.List.{List}
use native.Mathlib.Nat.{add_assoc}
use native.Mathlib.Omega.{arith}
use lib.Dec.{eqb}
use lib.ListN.{length, take, drop, length-drop}
use lib.Seq.{drop-drop, take_all}
use borrow.Author.Tests.{eq-eqb, ne_eqb}
use Rattle.wire.specs.Bytes.{numbers, field_at}
use Rattle.dossier.specs.Reader.{Judged, refused, accepted, Reader, after, followed, ◌>>=◌, ◌>>◌, give, begin, field, fields, outside, within, equal}

-- what a number says: 0 that nothing is wrong and these bytes are left, any other that it is refused
abbrev pub number_says : List ℕ → ℕ → Judged (Unit {0})
number_says rest n = cond (eqb n 0) (accepted tt rest) (refused n)

-- of a record that begins at a place: the bytes of its fields are left
abbrev pub begun_says : List ℕ → ℕ → ℕ → Judged (Unit {0})
begun_says s at n = number_says (drop (at + 2) s) n

-- ---- what a number says of a reader r, and of what follows it
module _ (r : Reader (Unit {0})) (u v : List ℕ) (n : ℕ) (h : number_says v n ≡ r u) where
  pub number_no : {B : Type 0} (q : Reader B) → (n ≡ 0 → ⊥) → refused n ≡ (r >> q) u
  unfolding followed
  number_no q f = rw (← h) (rw (ne_eqb n 0 f))

  pub number-yes : {B : Type 0} (q : Reader B) → n ≡ 0 → q v ≡ (r >> q) u
  unfolding followed
  number-yes q f = rw (← h) (rw (eq-eqb n 0 f))

-- of a record that begins at a place, and its fields q
module _ (s : List ℕ) (at m n r : ℕ) (h : begun_says s at r ≡ begin m n (drop at s)) where
  pub begun_no : {B : Type 0} (q : Reader B) → (r ≡ 0 → ⊥) → refused r ≡ (begin m n >> q) (drop at s)
  begun_no q f = number_no (begin m n) (drop at s) (drop (at + 2) s) r h q f

  pub begun-yes : {B : Type 0} (q : Reader B) → r ≡ 0 → q (drop (at + 2) s) ≡ (begin m n >> q) (drop at s)
  begun-yes q f = number-yes (begin m n) (drop at s) (drop (at + 2) s) r h q f

-- ---- each step of a reader as a rule that rewrites: `simp reading` turns the fields at a place into nested tests
pub field_is : {B : Type 0} (w : ℕ) (k : ℕ → Reader B) (s : List ℕ) (at : ℕ) → (field w >>= k) (drop at s) ≡ k (field_at w s at) (drop (at + w) s)
unfolding field field_at followed
field_is w k s at = rw drop-drop

pub fields-is : {B : Type 0} (j w : ℕ) (k : List ℕ → Reader B) (s : List ℕ) (at : ℕ) → (fields j w >>= k) (drop at s) ≡ k (numbers j w (drop at s)) (drop (at + j * w) s)
unfolding fields followed
fields-is j w k s at = rw drop-drop

pub within-is : {B : Type 0} (n low x high : ℕ) (q : Reader B) (s : List ℕ) → (within n low x high >> q) s ≡ cond (outside low x high) (refused n) (q s)
unfolding within followed
within-is n low x high q s = go (outside low x high)
  where
    go : (b : Bool) → after (cond b (refused n) (accepted (tt {0}) s)) (λ _. q) ≡ cond b (refused n) (q s)
    go true = refl
    go false = refl

pub equal_is : {B : Type 0} (n x y : ℕ) (q : Reader B) (s : List ℕ) → (equal n x y >> q) s ≡ cond (eqb x y) (q s) (refused n)
unfolding equal followed
equal_is n x y q s = go (eqb x y)
  where
    go : (b : Bool) → after (cond b (accepted (tt {0}) s) (refused n)) (λ _. q) ≡ cond b (q s) (refused n)
    go true = refl
    go false = refl

pub give-is : {A : Type 0} (a : A) (s : List ℕ) → give a s ≡ accepted a s
unfolding give
give-is a s = refl

pub ruleset reading = (field_is, fields-is, within-is, equal_is, give-is, add_assoc)

-- ---- the part of the bytes from a place on
pub rest-is : (s : List ℕ) (at : ℕ) → take (length s - at) (drop at s) ≡ drop at s
rest-is s at = take_all (length s - at) (drop at s) (omega (arith, length-drop at s))

-- ---- an answer that was told: what the judgement is by it, and what holds of it
pub told : {X A : Type 0} (says : X → Judged A) (holds : X → Type 0) {r x : X} {j : Judged A} → r ≡ x → (says r ≡ j) × holds r → (says x ≡ j) × holds x
told says holds e w = rw e at w
