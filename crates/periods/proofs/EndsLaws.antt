-- Lists of period ends: the test of them turn by turn, and that it holds just of those in range.
-- Assumes nothing.
use Rattle.std.proofs.Common.{◌≡◌, ℕ, zero, suc, ◌+◌, ◌-◌, ◌≤◌, ◌<◌, true, false, eqb, ◌↔◌, List, [], ◌∷◌, length, drop, get_or, drop-cons, add-one, refl, ◌∙◌, sym, arith}
use Rattle.std.proofs.lemmas.Bool.Decides.{nat_tests}
use Rattle.std.proofs.Math.Seq.{drop-length}
use Rattle.periods.specs.Periods.{Inside, EndsInRange, ends_from, ends_sound}

-- ---- turn by turn
-- a list that is not empty
pub sound_some : (first n : ℕ) (ends : List ℕ) → (length ends ≡ 0 → ⊥) → ends_sound first n ends ≡ ends_from first (first + n) ends
unfolding ends_sound
sound_some first n ends h = grind arith

pub sound_none : (first n : ℕ) (ends : List ℕ) → length ends ≡ 0 → ends_sound first n ends ≡ true
unfolding ends_sound
sound_none first n ends h = grind arith

-- the end at place i
module _ (least beyond : ℕ) (ends : List ℕ) (i : ℕ) (h : i < length ends) where
  pub end_early : get_or ends i 0 < least → ends_from least beyond (drop i ends) ≡ false
  unfolding ends_from
  end_early early = rw (drop-cons ends i 0 h) (grind (arith, nat_tests))

  pub end_late : beyond ≤ get_or ends i 0 → ends_from least beyond (drop i ends) ≡ false
  unfolding ends_from
  end_late late = rw (drop-cons ends i 0 h) (grind (arith, nat_tests))

  pub end-taken : least ≤ get_or ends i 0 → get_or ends i 0 < beyond → ends_from least beyond (drop i ends) ≡ ends_from (get_or ends i 0 + 1) beyond (drop (i + 1) ends)
  unfolding ends_from
  end-taken later inside = rw (drop-cons ends i 0 h, add-one i) (grind (arith, nat_tests))

-- after the last, as many years are passed as there are
pub end-last : (least first n : ℕ) (ends : List ℕ) (i : ℕ) → i ≡ length ends → first ≤ least → ends_from least (first + n) (drop i ends) ≡ eqb (least - first) n
unfolding ends_from
end-last least first n ends i e later = rw (e, drop-length ends) (grind (arith, nat_tests))

-- ---- what the test says of the years
-- each end at least the least year, below the one beyond the last, and later than the one before it
abbrev From : (least beyond : ℕ) → List ℕ → Type 0
From least beyond [] = least ≡ beyond
From least beyond (end ∷ ends) = (least ≤ end) × (end < beyond) × From (end + 1) beyond ends

from_test : (least beyond : ℕ) (ends : List ℕ) → ends_from least beyond ends ≡ true → From least beyond ends
unfolding ends_from
from_test least beyond [] e = grind (arith, nat_tests)
from_test least beyond (end ∷ ends) e = grind (arith, nat_tests, from_test (end + 1) beyond ends)

test_from : (least beyond : ℕ) (ends : List ℕ) → From least beyond ends → ends_from least beyond ends ≡ true
unfolding ends_from
test_from least beyond [] h = grind (arith, nat_tests)
test_from least beyond (end ∷ ends) h = grind (arith, nat_tests, test_from (end + 1) beyond ends h.2)

-- so there are no more ends than years
from_count : (least beyond : ℕ) (ends : List ℕ) → From least beyond ends → least + length ends ≤ beyond
from_count least beyond [] h = omega arith
from_count least beyond (end ∷ ends) h = omega (arith, from_count (end + 1) beyond ends h.2)

from_inside : (least beyond : ℕ) (ends : List ℕ) → From least beyond ends → (i : ℕ) → i < length ends → (least ≤ get_or ends i 0) × (get_or ends i 0 < beyond)
from_inside least beyond [] h i q = absurd (omega arith)
from_inside least beyond (end ∷ ends) (later, inside, h) zero q = (later, inside)
from_inside least beyond (end ∷ ends) (later, inside, h) (suc i) q = grind (arith, from_inside (end + 1) beyond ends h i)

from_rising : (least beyond : ℕ) (ends : List ℕ) → From least beyond ends → (i : ℕ) → suc i < length ends → get_or ends i 0 < get_or ends (suc i) 0
from_rising least beyond [] h i q = absurd (omega arith)
from_rising least beyond (end ∷ ends) (later, inside, h) zero q = omega (arith, (from_inside (end + 1) beyond ends h 0 (omega arith)).0)
from_rising least beyond (end ∷ ends) (later, inside, h) (suc i) q = from_rising (end + 1) beyond ends h i (omega arith)

from_last : (least beyond : ℕ) (ends : List ℕ) → From least beyond ends → (i : ℕ) → suc i ≡ length ends → get_or ends i 0 + 1 ≡ beyond
from_last least beyond [] h i q = absurd (omega arith)
from_last least beyond (end ∷ []) (later, inside, h) zero q = h
from_last least beyond (end ∷ (next ∷ ends)) (later, inside, h) zero q = absurd (omega arith)
from_last least beyond (end ∷ ends) (later, inside, h) (suc i) q = from_last (end + 1) beyond ends h i (omega arith)

-- and ends of which that holds pass it
all_later : (end : ℕ) (ends : List ℕ) → ((i : ℕ) → suc i < length (end ∷ ends) → get_or (end ∷ ends) i 0 < get_or (end ∷ ends) (suc i) 0)
    → (i : ℕ) → i < length ends → end + 1 ≤ get_or ends i 0
all_later end ends rising zero q = omega (arith, rising 0 (omega arith))
all_later end ends rising (suc i) q = omega (arith, all_later end ends rising i (omega arith), rising (suc i) (omega arith))

from_all : (least beyond end : ℕ) (ends : List ℕ) → ((i : ℕ) → i < length (end ∷ ends) → (least ≤ get_or (end ∷ ends) i 0) × (get_or (end ∷ ends) i 0 < beyond))
    → ((i : ℕ) → suc i < length (end ∷ ends) → get_or (end ∷ ends) i 0 < get_or (end ∷ ends) (suc i) 0)
    → ((i : ℕ) → suc i ≡ length (end ∷ ends) → get_or (end ∷ ends) i 0 + 1 ≡ beyond) → From least beyond (end ∷ ends)
from_all least beyond end [] inside rising last = ((inside 0 (omega arith)).0, (inside 0 (omega arith)).1, last 0 refl)
from_all least beyond end (next ∷ ends) inside rising last = (
  (inside 0 (omega arith)).0,
  (inside 0 (omega arith)).1,
  from_all (end + 1) beyond next ends
      (λ i q. (all_later end (next ∷ ends) rising i q, (inside (suc i) (omega arith)).1)) (λ i q. rising (suc i) (omega arith)) (λ i q. last (suc i) (omega arith)),
)

-- ---- the ends of a sound list
pub sound-inside : (first n : ℕ) (ends : List ℕ) → ends_sound first n ends ≡ true → Inside first n ends
sound-inside first n ends e i q = from_inside first (first + n) ends (from_test first (first + n) ends (sym (sound_some first n ends (λ z. omega arith)) ∙ e)) i q

pub sound-count : (first n : ℕ) (ends : List ℕ) → ends_sound first n ends ≡ true → length ends ≤ n
sound-count first n [] e = omega arith
sound-count first n (end ∷ ends) e = omega (arith, from_count first (first + n) (end ∷ ends) (from_test first (first + n) (end ∷ ends) (unfold ends_sound in e)))

-- the test holds just of the lists in range, of at most 20 years
pub ends-judged : (first n : ℕ) → n ≤ 20 → (ends : List ℕ) → (ends_sound first n ends ≡ true) ↔ EndsInRange first n ends
ends-judged first n few [] = unfold ends_sound in (
  (λ e. record { most = omega arith; rising = λ i q. absurd (omega arith); inside = λ i q. absurd (omega arith); last = λ i q. absurd (omega arith) }),
  λ r. refl,
)
ends-judged first n few (end ∷ ends) = ((λ e. there (from_test first (first + n) (end ∷ ends) (unfold ends_sound in e))), λ r. unfold ends_sound in test_from first (first + n) (end ∷ ends) (back r))
  where
    there : From first (first + n) (end ∷ ends) → EndsInRange first n (end ∷ ends)
    there h = record {
      most = omega (arith, from_count first (first + n) (end ∷ ends) h);
      rising = λ i q. rw (add-one i) (from_rising first (first + n) (end ∷ ends) h i (omega arith));
      inside = from_inside first (first + n) (end ∷ ends) h;
      last = λ i q. from_last first (first + n) (end ∷ ends) h i (omega arith);
    }

    back : EndsInRange first n (end ∷ ends) → From first (first + n) (end ∷ ends)
    back r = from_all first (first + n) end ends r.inside (λ i q. rw (add-one i) at (r.rising i (omega arith))) (λ i q. r.last i (omega arith))
