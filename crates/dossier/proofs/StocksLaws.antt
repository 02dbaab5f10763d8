-- ST: what is accepted is exactly the encoding of a list of stocks in range; and the built-in list may be filed.
-- Assumes nothing.
use Rattle.std.proofs.Common.{ℕ, ◌+◌, ◌^◌, ◌≡◌, refl, List, append-nil, arith, lit<, length, length-append}
use mathlib.Core.Option.{Option, none, some}
use Rattle.classes.specs.Classes.{carbon_stocks}
use Rattle.wire.specs.Bytes.{joined}
use Rattle.wire.proofs.BytesLaws.{Below, below-entries, length-bytes, length-each}
use Rattle.dossier.specs.Records.{Head, StocksInRange, stocks_bytes, Opening, bytes_if_any, opening_bytes, terms_of, state_of, settled}
use Rattle.dossier.specs.JudgingRecords.{stocks}
use Rattle.dossier.proofs.Exact.{Exact, done, begin_then, fields_then, equal_then}
use Rattle.dossier.proofs.ExactParts.{Any}
use Rattle.dossier.proofs.EachLaws.{within_tests, each_then}

stocks-below : (xs : List ℕ) → StocksInRange xs → Below (256 ^ 2) xs
stocks-below xs p = below-entries (256 ^ 2) xs (λ i l. omega (arith, p.each i (omega (arith, p.twelve))))

pub stocks_exact : Exact 0 Any stocks stocks_bytes (λ (xs t : List ℕ). StocksInRange xs)
unfolding stocks stocks_bytes joined
stocks_exact =
    begin_then _ _ (lit< tt) (λ xs t c p. simp (append-nil, length-each, p.twelve))
    (fields_then _ _ (λ (xs : List ℕ). xs) (λ xs t c p. (p.twelve, stocks-below xs p)) (λ xs n l.
    each_then (within_tests _ _ _ _) _ (λ ys t c p i h. rw (← c.1) (record { least = omega arith; most = p.each i h })) (λ k.
    equal_then _ _ _ (λ ys t c p. rw (← c.1) p.non_forest) (λ z.
    done xs (tt, refl) (λ t. record { twelve = n; each = λ i h. (k i h).most; non_forest = z }) (λ ys t c p. c.1)))))

-- the built-in list filed: the same is settled as without ST, by 26 bytes more
module _ (h : Head) (project belt : List ℕ) (m : Option (List ℕ)) where
  abbrev opened : Option (List ℕ) → Opening
  opened stocks = record { head = h; stocks = stocks; project_areas = project; belt_areas = belt; matrix = m }

  pub built_in_filed : (settled (opened (some carbon_stocks)) ≡ settled (opened none))
      × (length (opening_bytes (opened (some carbon_stocks))) ≡ length (opening_bytes (opened none)) + 26)
  unfolding settled terms_of state_of opening_bytes bytes_if_any stocks_bytes joined carbon_stocks
  built_in_filed = (refl, simp (length-append, length-bytes, length-each) (omega arith))
