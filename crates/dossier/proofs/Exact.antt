-- Readers that accept exactly an encoding: one law for each step of a do block.
-- Assumes nothing.
use Rattle.std.proofs.Common.{ℕ, ◌+◌, ◌*◌, ◌^◌, ◌<◌, ◌≤◌, ◌≡◌, refl, ◌∙◌, List, [], ◌++◌, append_assoc, arith, length, take, drop, length-append, length-drop, drop_at}
use Rattle.activity.specs.Activity.{Within}
use Rattle.wire.specs.Bytes.{Bytes, number, bytes, numbers, bytes_of_each}
use Rattle.dossier.specs.Reader.{accepted, Reader, ◌>>=◌, ◌>>◌, give, begin, field, fields, within, equal, followed}
use Rattle.wire.proofs.BytesLaws.{bytes_drop, bytes_after, split, number-take-lt, take-bytes, drop-bytes, Below, length-each, length-numbers, numbers-each, split_each, numbers-below}
use Rattle.dossier.proofs.ReaderLaws.{step, begin-yes, begin-only, within-yes, within-only, equal-yes, equal-only}

-- Given n bytes or more, r accepts b and leaves t just where the bytes are e b and then t. C b: b agrees with what was read before. P b t: b is in
-- range, and t may follow it.
pub record Exact {B : Type 0} (n : ℕ) (C : B → Type 0) (r : Reader B) (e : B → List ℕ) (P : B → List ℕ → Type 0) : Type 0 where
  pub reads : (b : B) (t : List ℕ) → C b → P b t → r (e b ++ t) ≡ accepted b t
  pub only : (s : List ℕ) → Bytes s → n ≤ length s → (b : B) (t : List ℕ) → r s ≡ accepted b t → C b × P b t × (s ≡ e b ++ t)

module _ {B : Type 0} {C : B → Type 0} {P : B → List ℕ → Type 0} where
  pub done : (b₀ : B) → C b₀ → ((t : List ℕ) → P b₀ t) → ((b : B) (t : List ℕ) → C b → P b t → b ≡ b₀) → Exact 0 C (give b₀) (λ b. []) P
  unfolding give
  done b₀ c p u = grind arith

  -- a mark and at least n bytes
  pub begin-first : {r : Reader B} {e : B → List ℕ} (m n : ℕ) → m < 65536 → ((b : B) (t : List ℕ) → C b → P b t → n ≤ length (e b)) → Exact n C r e P
      → Exact 0 C (begin m n >> r) (λ b. bytes 2 m ++ e b) P
  unfolding followed
  begin-first {r} {e} m n h l x = record {
    reads = λ b t c p.
        let k : n ≤ length (e b ++ t) = simp length-append (omega (arith, l b t c p)) in
        rw (append_assoc, begin-yes m n (e b ++ t) h k) (x.reads b t c p);
    only = λ s bs k b t q.
        let g = step (begin m n s) (λ _. r) q in
        let f = begin-only m n s bs g.2 in
        let i = x.only g.1 (bytes_after (bytes 2 m) g.1 (rw f.0 at bs)) f.1 b t g.3 in
        (i.0, i.1, f.0 ∙ rw (i.2, append_assoc));
  }

  -- a mark and n bytes
  pub begin_then : {r : Reader B} {e : B → List ℕ} (m n : ℕ) → m < 65536 → ((b : B) (t : List ℕ) → C b → P b t → length (e b) ≡ n) → Exact n C r e P
      → Exact 0 C (begin m n >> r) (λ b. bytes 2 m ++ e b) P
  begin_then m n h l x = begin-first m n h (λ b t c p. omega (arith, l b t c p)) x

  pub field_then : {n : ℕ} {k : ℕ → Reader B} {e : B → List ℕ} (w : ℕ) (get : B → ℕ) → ((b : B) (t : List ℕ) → C b → P b t → get b < 256 ^ w)
      → ((x : ℕ) → x < 256 ^ w → Exact n (λ b. C b × (get b ≡ x)) (k x) e P) → Exact (w + n) C (field w >>= k) (λ b. bytes w (get b) ++ e b) P
  unfolding followed field
  field_then {n} {k} {e} w get lt x = record {
    reads = λ b t c p.
        let h = lt b t c p in
        rw (append_assoc, take-bytes w (get b) (e b ++ t) h, drop-bytes) ((x (get b) h).reads b t (c, refl) p);
    only = λ s bs h b t q.
        let v = number (take w s) in
        let l : v < 256 ^ w = number-take-lt w s bs (omega arith) in
        let g = (x v l).only (drop w s) (bytes_drop w s bs) (simp length-drop (omega arith)) b t q in
        (g.0.0, g.1, split w s bs (omega arith) ∙ rw (g.2, g.0.1, append_assoc));
  }

  pub fields_then : {n : ℕ} {k : List ℕ → Reader B} {e : B → List ℕ} (j w : ℕ) (get : B → List ℕ)
      → ((b : B) (t : List ℕ) → C b → P b t → (length (get b) ≡ j) × Below (256 ^ w) (get b))
      → ((xs : List ℕ) → length xs ≡ j → Below (256 ^ w) xs → Exact n (λ b. C b × (get b ≡ xs)) (k xs) e P)
      → Exact (j * w + n) C (fields j w >>= k) (λ b. bytes_of_each w (get b) ++ e b) P
  unfolding followed fields
  fields_then {n} {k} {e} j w get lt x = record {
    reads = λ b t c p.
        let h = lt b t c p in
        let a : numbers j w (bytes_of_each w (get b) ++ (e b ++ t)) ≡ get b = rw (← h.0) (numbers-each w (get b) (e b ++ t) h.1) in
        let d : drop (j * w) (bytes_of_each w (get b) ++ (e b ++ t)) ≡ e b ++ t = drop_at (bytes_of_each w (get b)) (e b ++ t) (j * w) (rw (← h.0) (length-each w (get b))) in
        rw (append_assoc, a, d) ((x (get b) h.0 h.1).reads b t (c, refl) p);
    only = λ s bs h b t q.
        let v = numbers j w s in
        let g = (x v (length-numbers j w s) (numbers-below j w s bs (omega arith))).only (drop (j * w) s) (bytes_drop (j * w) s bs) (simp length-drop (omega arith)) b t q in
        (g.0.0, g.1, split_each j w s bs (omega arith) ∙ rw (g.2, g.0.1, append_assoc));
  }

  -- a test that passes just where H holds, and a reader after it
  pub test_then : {n : ℕ} {H : Type 0} {test : Reader (Unit {0})} {r : Reader B} {e : B → List ℕ} → ((s : List ℕ) → H → test s ≡ accepted tt s)
      → ((s u : List ℕ) → test s ≡ accepted tt u → H × (s ≡ u)) → ((b : B) (t : List ℕ) → C b → P b t → H)
      → (H → Exact n C r e P) → Exact n C (test >> r) e P
  unfolding followed
  test_then {test = test} {r = r} {e = e} passes passed f g = record {
    reads = λ b t k p. let h = f b t k p in rw (passes (e b ++ t) h) ((g h).reads b t k p);
    only = λ s bs h b t q.
        let k = step (test s) (λ _. r) q in
        let i = passed s k.1 k.2 in
        (g i.0).only s bs h b t (rw (← i.1) at k.3);
  }

  pub within_then : {n : ℕ} {r : Reader B} {e : B → List ℕ} (c low x high : ℕ) → ((b : B) (t : List ℕ) → C b → P b t → Within low x high)
      → (Within low x high → Exact n C r e P) → Exact n C (within c low x high >> r) e P
  within_then c low x high = test_then (within-yes c low x high) (λ s u. within-only c low x high s)

  pub equal_then : {n : ℕ} {r : Reader B} {e : B → List ℕ} (c x y : ℕ) → ((b : B) (t : List ℕ) → C b → P b t → x ≡ y)
      → (x ≡ y → Exact n C r e P) → Exact n C (equal c x y >> r) e P
  equal_then c x y = test_then (equal-yes c x y) (λ s u. equal-only c x y s)
