-- HD, PA, DA, CP, CD: what is accepted is exactly the encoding of a record in range.
-- Assumes nothing.
use Rattle.std.proofs.Common.{ℕ, ◌^◌, ◌<◌, ◌≤◌, refl, List, append-nil, arith, lit<, length-append}
use Rattle.classes.specs.Classes.{greatest_area}
use Rattle.wire.specs.Bytes.{joined}
use Rattle.dossier.specs.Records.{Head, HeadInRange, head_bytes, AreasInRange, areas_bytes, ConversionsInRange, conversions_bytes}
use Rattle.dossier.specs.JudgingRecords.{head, areas, conversions}
use Rattle.wire.proofs.BytesLaws.{below_total, length-bytes, length-each}
use Rattle.dossier.proofs.Exact.{Exact, done, begin_then, field_then, fields_then, within_then, equal_then}
use Rattle.dossier.proofs.ExactParts.{Any}

-- HD
pub head_exact : Exact 0 Any head head_bytes (λ (h : Head) (t : List ℕ). HeadInRange h)
unfolding head head_bytes joined
head_exact =
    begin_then _ _ (lit< tt) (λ h t c p. simp (length-append, length-bytes))
    (field_then _ (λ (h : Head). h.option) (λ h t c p. omega arith) (λ o lo.
    field_then _ (λ (h : Head). h.first_year) (λ h t c p. omega arith) (λ f lf.
    field_then _ (λ (h : Head). h.years) (λ h t c p. omega arith) (λ y ly.
    within_then _ _ _ _ (λ h t c p. omega arith) (λ ro.
    within_then _ _ _ _ (λ h t c p. omega arith) (λ rf.
    within_then _ _ _ _ (λ h t c p. omega arith) (λ ry.
    done (record { option = o; first_year = f; years = y }) (((tt, refl), refl), refl) (λ t. record { options = omega arith; first_years = omega arith; count = omega arith })
    (λ h t c p. λ i. record { option = c.0.0.1 i; first_year = c.0.1 i; years = c.1 i }))))))))

-- PA, DA
pub areas_exact : (m least : ℕ) → m < 65536 → Exact 0 Any (areas m least) (areas_bytes m) (λ (xs t : List ℕ). AreasInRange least xs)
unfolding areas areas_bytes joined
areas_exact m least h =
    begin_then _ _ h (λ xs t c p. simp (append-nil, length-each, p.twelve))
    (fields_then _ _ (λ (xs : List ℕ). xs) (λ xs t c p. (p.twelve, below_total (256 ^ 8) xs (omega arith))) (λ xs n l.
    within_then _ _ _ _ (λ ys t c p. rw (← c.1) p.totals) (λ k.
    done xs (tt, refl) (λ t. record { twelve = n; totals = k }) (λ ys t c p. c.1))))

-- CP, CD
pub conversions_exact : (m settled_total : ℕ) → m < 65536 → settled_total ≤ greatest_area
    → Exact 0 Any (conversions m settled_total) (conversions_bytes m) (λ (xs t : List ℕ). ConversionsInRange settled_total xs)
unfolding conversions conversions_bytes joined
conversions_exact m settled_total h g =
    begin_then _ _ h (λ xs t c p. simp (append-nil, length-each, p.count))
    (fields_then _ _ (λ (xs : List ℕ). xs) (λ xs t c p. (p.count, below_total (256 ^ 8) xs (omega arith))) (λ xs n l.
    equal_then _ _ _ (λ ys t c p. rw (← c.1) p.totals) (λ k.
    done xs (tt, refl) (λ t. record { count = n; totals = k }) (λ ys t c p. c.1))))
