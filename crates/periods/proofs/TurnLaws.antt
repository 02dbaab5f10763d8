-- Turns of the ends and of the years: what a turn adds to those that are done, where these are a list of their own.
-- Assumes nothing.
use Prim.Native.Nat.{ℕ, suc, ◌+◌, ◌*◌, ◌^◌, ◌<◌}
use mathlib.Core.Path.{◌≡◌, ◌∙◌, sym}
use mathlib.Core.List.{List, [], ◌∷◌, ◌++◌, map, append_assoc, append-nil}
use native.Mathlib.Numerals.{add-one}
use native.Mathlib.Omega.{arith}
use lib.IntN.{ℤ, pos, ◌+ℤ◌}
use lib.ListN.{length, drop, get_or}
use lib.Seq.{sets, drop-cons, drop-length}
use mir.Syntax.{w64}
use mir.Val.{SFits, to_z, of_z}
use mir.Facts.{to_z-of_z}
use borrow.Author.Rules.{sfits_of}
use Rattle.arithmetic.proofs.IntegerSums.{int_sum-next}
use Rattle.units.specs.declared.Grams.{Grams}
use Rattle.figures.specs.declared.Figures.{Figures}
use Rattle.wire.specs.Signed.{figure_bytes, figures_bytes}
use Rattle.wire.proofs.SignedLaws.{stored_one}
use Rattle.periods.specs.Periods.{running_total, credited_in, issued_now, issued_after}
use Rattle.periods.specs.Ranges.{SmallYears, kept_at, Kept}
use Rattle.periods.proofs.RunningLaws.{running_fits}

-- the end at place i, after those that are done
pub issued_turn : (total : ℕ → ℤ) (ends : List ℕ) (i before now : ℕ) (all done : List ℤ) → i < length ends
    → all ≡ done ++ issued_after (pos before) (map total (drop i ends)) → pos now ≡ issued_now (pos before) (total (get_or ends i 0))
    → all ≡ (done ++ (pos now ∷ [])) ++ issued_after (pos (before + now)) (map total (drop (i + 1) ends))
unfolding issued_after
issued_turn total ends i before now all done h e f =
    e ∙ rw (drop-cons ends i 0 h, ← f, add-one i) (sym (append_assoc done (pos now ∷ []) (issued_after (pos (before + now)) (map total (drop (suc i) ends)))))

-- its figure is stored after those that are done
pub stored_turn : (done : List ℤ) (now : ℕ) (s before after : List ℕ) (at next : ℕ) → before ≡ sets s at (figures_bytes done) → now < 2 ^ 63 → at + 8 * length done ≡ next
    → after ≡ sets before next (figure_bytes (to_z w64 (of_z w64 (pos now)))) → after ≡ sets s at (figures_bytes (done ++ (pos now ∷ [])))
stored_turn done now s before after at next e few p f = f ∙ rw (e, to_z-of_z (sfits_of few)) (stored_one done (pos now) s at next p)

-- after the last nothing is left to be issued
pub all-issued : (total : ℕ → ℤ) (ends : List ℕ) (i : ℕ) (before : ℤ) (all done : List ℤ) → i ≡ length ends
    → all ≡ done ++ issued_after before (map total (drop i ends)) → all ≡ done
unfolding issued_after
all-issued total ends i before all done e f = f ∙ rw (e, drop-length ends) (append-nil done)

-- the running total of one year more fits
pub next_fits : (figures : List Figures) (totals : List Grams) (y : ℕ) → Kept y figures totals → (k : ℕ) → SmallYears k figures → y < k
    → SFits w64 (kept_at totals y +ℤ credited_in figures y)
next_fits figures totals y kept k small h =
    let next : kept_at totals y +ℤ credited_in figures y ≡ running_total (credited_in figures) (y + 1) = rw (kept.at y (omega arith)) (sym (int_sum-next y (credited_in figures))) in
    rw next (sfits_of (running_fits k figures small (y + 1) (omega arith)))
