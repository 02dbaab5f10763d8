-- What each step of a reader accepts, both ways.
-- Assumes nothing.
use Rattle.std.proofs.Common.{ℕ, ◌<◌, ◌≤◌, ◌≡◌, ◌∙◌, ap, Bool, true, false, cond, ◌⊎◌, List, [], ◌∷◌, ◌++◌, arith, le-ltb, eq-eqb, length, take, length-append}
use Rattle.activity.specs.Activity.{Within}
use Rattle.wire.specs.Bytes.{Bytes, number, bytes}
use Rattle.dossier.specs.Reader.{Judged, refused, accepted, Reader, after, ◌>>=◌, ◌>>◌, give, mark, begin, stands, is, present, outside, within, equal, holds, nothing, followed}
use Rattle.wire.proofs.BytesLaws.{length-bytes, split, take-bytes, drop-bytes}

-- no refusal is an acceptance, and no acceptance a refusal
pub no : {A : Type 0} {G : Type 0} (n : ℕ) (a : A) (t : List ℕ) → ◌≡◌ {A = Judged A} (refused n) (accepted a t) → G
no n a t e = cc

pub never : {A G : Type 0} (a : A) (t : List ℕ) (n : ℕ) → ◌≡◌ {A = Judged A} (accepted a t) (refused n) → G
never a t n e = cc

-- what is accepted by one judgement and a reader after it
pub step : {A B : Type 0} (j : Judged A) (f : A → Reader B) {b : B} {t : List ℕ} → after j f ≡ accepted b t
    → (a : A) × (u : List ℕ) × (j ≡ accepted a u) × (f a u ≡ accepted b t)
step j f e = grind arith

-- one reader after another, from what the first one gives: its refusal is the whole's
pub bind_no : {A B : Type 0} (r : Reader A) (k : A → Reader B) (u : List ℕ) (n : ℕ) → refused n ≡ r u → refused n ≡ (r >>= k) u
unfolding followed
bind_no r k u n e = cc

pub bind-yes : {A B : Type 0} (r : Reader A) (k : A → Reader B) (u : List ℕ) (a : A) (v : List ℕ) → accepted a v ≡ r u → k a v ≡ (r >>= k) u
unfolding followed
bind-yes r k u a v e = cc

pub bind-bind : {A B C : Type 0} (j : Judged A) (k : A → Reader B) (g : B → Reader C) → after (after j k) g ≡ after j (λ a u. after (k a u) g)
bind-bind j k g = grind arith

pub after_same : {A B : Type 0} (j : Judged A) (k l : A → Reader B) → ((a : A) (u : List ℕ) → k a u ≡ l a u) → after j k ≡ after j l
after_same j k l h = grind arith

pub was : {A : Type 0} {a b : A} {s t : List ℕ} → accepted a s ≡ accepted b t → (a ≡ b) × (s ≡ t)
was e = (cc, cc)

-- a value made of what was read
pub record Made {A B : Type 0} (j : Judged A) (f : A → B) (b : B) (u : List ℕ) : Type 0 where
  pub value : A
  pub judged : accepted value u ≡ j
  pub made : b ≡ f value

pub made_no : {A B : Type 0} (j : Judged A) (f : A → B) (n : ℕ) → refused n ≡ after j (λ a. give (f a)) → refused n ≡ j
unfolding give
made_no j f n e = grind arith

pub made-yes : {A B : Type 0} (j : Judged A) (f : A → B) (b : B) (u : List ℕ) → accepted b u ≡ after j (λ a. give (f a)) → Made j f b u
unfolding give
made-yes j f b u e = grind arith

pub cond_refused : {A : Type 0} (x : Bool) (n : ℕ) (j : Judged A) {a : A} {t : List ℕ} → cond x (refused n) j ≡ accepted a t → (x ≡ false) × (j ≡ accepted a t)
cond_refused x n j e = grind arith

pub cond_accepted : {A : Type 0} (x : Bool) (n : ℕ) (j : Judged A) {a : A} {t : List ℕ} → cond x j (refused n) ≡ accepted a t → (x ≡ true) × (j ≡ accepted a t)
cond_accepted x n j e = grind arith

-- a choice between two readers after one another and a judgement: which of the two is accepted, or which of the three refuses
pub chosen : {A B : Type 0} (b : Bool) (j : Judged A) (k : A → Reader B) (m : Judged B) {c : B} {t : List ℕ} → cond b (after j k) m ≡ accepted c t
    → ((b ≡ true) × (a : A) × (u : List ℕ) × (j ≡ accepted a u) × (k a u ≡ accepted c t)) ⊎ ((b ≡ false) × (m ≡ accepted c t))
chosen b j k m q = grind arith

pub faulted : {A B : Type 0} (b : Bool) (j : Judged A) (k : A → Reader B) (m : Judged B) (n : ℕ) → cond b (after j k) m ≡ refused n
    → (j ≡ refused n) ⊎ ((a : A) × (u : List ℕ) × (j ≡ accepted a u) × (k a u ≡ refused n)) ⊎ (m ≡ refused n)
faulted b j k m n q = grind arith

-- ---- marks and bytes present
pub mark-yes : (m : ℕ) (t : List ℕ) → m < 65536 → mark m (bytes 2 m ++ t) ≡ accepted tt t
unfolding mark
mark-yes m t h = simp (le-ltb (length (bytes 2 m ++ t)) 2 (simp (length-append, length-bytes) (omega arith)), eq-eqb _ _ (take-bytes 2 m t h), drop-bytes)

pub mark-only : (m : ℕ) (s : List ℕ) {x : Unit {0}} {u : List ℕ} → Bytes s → mark m s ≡ accepted x u → s ≡ bytes 2 m ++ u
unfolding mark
mark-only m s b e = grind (arith, split 2 s b)

pub present-yes : (n : ℕ) (s : List ℕ) → n ≤ length s → present n s ≡ accepted tt s
unfolding present
present-yes n s h = simp (le-ltb _ _ h)

pub present-only : (n : ℕ) (s : List ℕ) {x : Unit {0}} {u : List ℕ} → present n s ≡ accepted x u → (n ≤ length s) × (s ≡ u)
unfolding present
present-only n s e = grind arith

pub begin-yes : (m n : ℕ) (t : List ℕ) → m < 65536 → n ≤ length t → begin m n (bytes 2 m ++ t) ≡ accepted tt t
unfolding begin followed
begin-yes m n t h k = rw (mark-yes m t h) (present-yes n t k)

pub begin-only : (m n : ℕ) (s : List ℕ) {x : Unit {0}} {u : List ℕ} → Bytes s → begin m n s ≡ accepted x u → (s ≡ bytes 2 m ++ u) × (n ≤ length u)
unfolding begin followed
begin-only m n s b e = grind (arith, mark-only, present-only)

-- ---- ranges and equations
pub within-yes : (n low x high : ℕ) (s : List ℕ) → Within low x high → within n low x high s ≡ accepted tt s
unfolding within outside
within-yes n low x high s h = grind arith

pub within-above : (n low x high : ℕ) (s : List ℕ) → high < x → within n low x high s ≡ refused n
unfolding within outside
within-above n low x high s h = grind arith

pub within-only : (n low x high : ℕ) (s : List ℕ) {y : Unit {0}} {u : List ℕ} → within n low x high s ≡ accepted y u → Within low x high × (s ≡ u)
unfolding within outside
within-only n low x high s e = grind arith

pub equal-yes : (n x y : ℕ) (s : List ℕ) → x ≡ y → equal n x y s ≡ accepted tt s
unfolding equal
equal-yes n x y s h = simp (eq-eqb _ _ h)

pub equal-only : (n x y : ℕ) (s : List ℕ) {z : Unit {0}} {u : List ℕ} → equal n x y s ≡ accepted z u → (x ≡ y) × (s ≡ u)
unfolding equal
equal-only n x y s e = grind arith

-- a test, and a reader after it
pub held-only : {B : Type 0} (n : ℕ) (b : Bool) (q : Reader B) (s : List ℕ) {x : B} {t : List ℕ} → (holds n b >> q) s ≡ accepted x t → (b ≡ true) × (q s ≡ accepted x t)
unfolding holds followed
held-only n b q s e = grind arith

-- ---- what stands before bytes, and the ends
pub stands_short : (kind : ℕ → Bool) (s : List ℕ) → length s < 2 → stands kind s ≡ false
unfolding stands
stands_short kind s h = grind arith

pub stands_here : (kind : ℕ → Bool) (s : List ℕ) → 2 ≤ length s → stands kind s ≡ kind (number (take 2 s))
unfolding stands
stands_here kind s h = grind arith

pub stands-bytes : (kind : ℕ → Bool) (m : ℕ) (t : List ℕ) → m < 65536 → stands kind (bytes 2 m ++ t) ≡ kind m
stands-bytes kind m t h = stands_here kind (bytes 2 m ++ t) (simp (length-append, length-bytes) (omega arith)) ∙ ap kind (take-bytes 2 m t h)

-- where the mark m stands
pub stood : (m : ℕ) (s : List ℕ) → stands (is m) s ≡ true → (2 ≤ length s) × (number (take 2 s) ≡ m)
unfolding stands
stood m s h = grind arith

pub nothing-only : (s : List ℕ) {x : Unit {0}} {t : List ℕ} → nothing s ≡ accepted x t → (s ≡ []) × (t ≡ [])
unfolding nothing
nothing-only [] e = grind arith
nothing-only (b ∷ s) e = grind arith
