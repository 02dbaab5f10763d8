-- The numbers of a report: how many, where each stands, and that figure after figure they make the written buffer.
-- Assumes nothing.
use Rattle.std.proofs.Common.{◌≡◌, ℕ, ◌+◌, ◌*◌, ◌≤◌, ◌<◌, List, [], ◌∷◌, ◌++◌, ℤ, length, take, get_or, refl, ◌∙◌, sym, arith}
use Rattle.std.proofs.lemmas.List.{take_more, take_all, length-take-le}
use Rattle.std.proofs.lemmas.List.Edits.{sets}
use Rattle.arithmetic.proofs.StoreLaws.{sets_append}
use Rattle.wire.specs.Signed.{figure_bytes, figures_bytes, written}
use Rattle.wire.proofs.SignedLaws.{length-figure, written-more}
use Rattle.figures.specs.declared.Figures.{Figures}
use Rattle.report.specs.Report.{eight, eights, closing}

-- a list of figures is stored figure after figure
pub stored_next : (z : ℤ) (rest : List ℤ) (s : List ℕ) (at next : ℕ) → at + 8 ≡ next
    → sets s at (figures_bytes (z ∷ rest)) ≡ sets (sets s at (figure_bytes z)) next (figures_bytes rest)
unfolding figures_bytes
stored_next z rest s at next e = sets_append s at (figure_bytes z) (figures_bytes rest) ∙ rw (length-figure z, e)

-- no figure is stored
stored-none : (s : List ℕ) (at : ℕ) → sets s at (figures_bytes []) ≡ s
unfolding figures_bytes
stored-none s at = refl

-- four figures stored one after the other
pub stored_four : (a b c d : ℤ) (s : List ℕ) (at : ℕ)
    → sets (sets (sets (sets s at (figure_bytes a)) (at + 8) (figure_bytes b)) (at + 16) (figure_bytes c)) (at + 24) (figure_bytes d) ≡ sets s at (figures_bytes (a ∷ b ∷ c ∷ d ∷ []))
stored_four a b c d s at =
    sym (stored_next a (b ∷ c ∷ d ∷ []) s at (at + 8) refl
    ∙ stored_next b (c ∷ d ∷ []) _ (at + 8) (at + 16) (omega arith)
    ∙ stored_next c (d ∷ []) _ (at + 16) (at + 24) (omega arith)
    ∙ stored_next d [] _ (at + 24) (at + 32) (omega arith)
    ∙ stored-none _ (at + 32))

-- eight numbers a year
length-eights : (figures : List Figures) → length (eights figures) ≡ 8 * length figures
unfolding eights
length-eights [] = refl
length-eights (f ∷ rest) = omega (arith, length-eights rest)

eights-append : (fs gs : List Figures) → eights (fs ++ gs) ≡ eights fs ++ eights gs
unfolding eights
eights-append [] gs = refl
eights-append (f ∷ fs) gs = rw (eights-append fs gs)

pub length-years : (k : ℕ) (figures : List Figures) → k ≤ length figures → length (eights (take k figures)) ≡ 8 * k
length-years k figures h = length-eights (take k figures) ∙ rw (length-take-le k figures h)

-- the figures of year y are written after those of the years before it
pub written-year : (figures : List Figures) (y : ℕ) (d : Figures) (buffer : List ℕ) → y < length figures → 64 * y + 64 ≤ length buffer
    → sets (written (eights (take y figures)) buffer) (64 * y) (figures_bytes (eight (get_or figures y d))) ≡ written (eights (take (y + 1) figures)) buffer
unfolding eights
written-year figures y d buffer h room =
    written-more (eights (take y figures)) (eight (get_or figures y d)) buffer (64 * y) (omega (arith, length-years y figures (omega arith))) (omega arith)
    ∙ rw (take_more figures y d h, eights-append (take y figures) (get_or figures y d ∷ []))

-- and the closing numbers after those of the last year
pub written-closing : (figures : List Figures) (done : List ℕ) (y : ℕ) (total : ℤ) (project belt : ℕ) (buffer : List ℕ)
    → y ≡ length figures → done ≡ written (eights (take y figures)) buffer → 64 * length figures + 32 ≤ length buffer
    → sets done (64 * length figures) (figures_bytes (closing total project belt)) ≡ written (eights figures ++ closing total project belt) buffer
written-closing figures done y total project belt buffer all e room =
    rw (e, all, take_all (length figures) figures (omega arith))
    (written-more (eights figures) (closing total project belt) buffer (64 * length figures) (omega (arith, length-eights figures)) (omega arith))
