-- Readers that accept exactly an encoding: readers made of others.
-- Assumes nothing.
use Rattle.std.proofs.Common.{ℕ, ◌≡◌, refl, ◌∙◌, Bool, true, false, List, [], ◌++◌, append_assoc, append-nil, arith}
use mathlib.Core.Option.{Option, none, some}
use Rattle.dossier.specs.Records.{bytes_if_any}
use Rattle.dossier.specs.Reader.{Reader, ◌>>=◌, ◌>>◌, give, if_any, holds, end_of_piece, followed}
use Rattle.wire.proofs.BytesLaws.{bytes_after}
use Rattle.dossier.proofs.ReaderLaws.{step, was}
use Rattle.dossier.proofs.Refusals.{piece_ends, piece_ends_only}
use Rattle.dossier.proofs.Exact.{Exact}

-- nothing was read before
abbrev pub Any : {B : Type 0} → B → Type 0
Any b = Unit {0}

module _ {B : Type 0} {C : B → Type 0} {P : B → List ℕ → Type 0} where
  -- a reader, and others after it
  pub sub_then : {A : Type 0} {r : Reader A} {e' : A → List ℕ} {P' : A → List ℕ → Type 0} {k : A → Reader B} {e : B → List ℕ} (get : B → A)
      → Exact 0 (λ (a : A). Unit {0}) r e' P' → ((b : B) (t : List ℕ) → C b → P b t → P' (get b) (e b ++ t))
      → ((a : A) (u : List ℕ) → P' a u → Exact 0 (λ b. C b × (get b ≡ a)) (k a) e P) → Exact 0 C (r >>= k) (λ b. e' (get b) ++ e b) P
  unfolding followed
  sub_then {r = r} {e' = e'} {k = k} {e = e} get x f g = record {
    reads = λ b t c p.
        let h = f b t c p in
        rw (append_assoc, x.reads (get b) (e b ++ t) tt h) ((g (get b) (e b ++ t) h).reads b t (c, refl) p);
    only = λ s bs h b t q.
        let i = step (r s) k q in
        let j = x.only s bs (omega arith) i.0 i.1 i.2 in
        let l = (g i.0 i.1 j.1).only i.1 (bytes_after (e' i.0) i.1 (rw j.2 at bs)) (omega arith) b t i.3 in
        (l.0.0, l.1, j.2 ∙ rw (l.2, l.0.1, append_assoc));
  }

  -- a reader as the last step
  pub last_then : {A : Type 0} {r : Reader A} {e' : A → List ℕ} {P' : A → List ℕ → Type 0} (get : B → A) (make : A → B)
      → Exact 0 (λ (a : A). Unit {0}) r e' P' → ((b : B) (t : List ℕ) → C b → P b t → P' (get b) t × (make (get b) ≡ b))
      → ((a : A) (t : List ℕ) → P' a t → C (make a) × P (make a) t × (get (make a) ≡ a)) → Exact 0 C (r >>= λ a. give (make a)) (λ b. e' (get b) ++ []) P
  unfolding followed give
  last_then {r = r} {e' = e'} get make x f g = record {
    reads = λ b t c p. let h = f b t c p in rw (append-nil, x.reads (get b) t tt h.0, h.1);
    only = λ s bs h b t q.
        let (a, u, i, o) = step (r s) (λ a. give (make a)) q in
        let j = x.only s bs (omega arith) a u i in
        let l = g a u j.1 in
        (rw (was o).0 at l.0, grind arith, grind (arith, append-nil));
  }

-- a value that may be absent, by a test of the bytes: none where it fails of what follows, some in range where it holds of its bytes
abbrev pub OptionThen : {A : Type 0} (there : List ℕ → Bool) (e : A → List ℕ) (P : A → List ℕ → Type 0) → Option A → List ℕ → Type 0
OptionThen there e P none t = there t ≡ false
OptionThen there e P (some a) t = P a t × (there (e a ++ t) ≡ true)

pub if_any_lem : {A : Type 0} {r : Reader A} {e : A → List ℕ} {P : A → List ℕ → Type 0} (there : List ℕ → Bool) → Exact 0 Any r e P
    → Exact 0 Any (if_any there r) (bytes_if_any e) (OptionThen there e P)
unfolding if_any bytes_if_any followed give
if_any_lem {A} {r} {e} {P} there x = grind arith

-- the same encoding, written otherwise
pub recoded : {B : Type 0} {C : B → Type 0} {P : B → List ℕ → Type 0} {n : ℕ} {r : Reader B} {e e' : B → List ℕ} → ((b : B) → C b → e b ≡ e' b) → Exact n C r e P → Exact n C r e' P
recoded f x = record {
  reads = λ b t c p. rw (← f b c) (x.reads b t c p);
  only = λ s bs h b t q. let i = x.only s bs h b t q in (i.0, i.1, i.2 ∙ rw (f b i.0));
}

-- a reader that must reach the end of its piece
pub piece_exact : {A : Type 0} {r : Reader A} {e : A → List ℕ} {P : A → List ℕ → Type 0} → Exact 0 Any r e P
    → Exact 0 Any (r >>= λ a. end_of_piece >> give a) e (λ a t. P a t × (t ≡ []))
unfolding followed give
piece_exact x = grind (arith, piece_ends, piece_ends_only)

-- a test of what was read
pub checked : {A : Type 0} {r : Reader A} {e : A → List ℕ} {P : A → List ℕ → Type 0} (c : ℕ) (test : A → Bool) → Exact 0 Any r e P
    → Exact 0 Any (r >>= λ a. holds c (test a) >> give a) e (λ a t. P a t × (test a ≡ true))
unfolding followed give holds
checked {A} {r} {e} {P} c test x = grind arith

-- the same range, said otherwise
pub restated : {B : Type 0} {C : B → Type 0} {P Q : B → List ℕ → Type 0} {n : ℕ} {r : Reader B} {e : B → List ℕ} → ((b : B) (t : List ℕ) → P b t → Q b t)
    → ((b : B) (t : List ℕ) → Q b t → P b t) → Exact n C r e P → Exact n C r e Q
restated to from x = record {
  reads = λ b t c q. x.reads b t c (from b t q);
  only = λ s bs h b t q. let w = x.only s bs h b t q in (w.0, to b t w.1, w.2);
}
