-- Areas and their amounts: what they come to, and there and back.
-- Assumes nothing.
use Rattle.std.proofs.Common.{◌≡◌, List, [], ◌∷◌, length, refl, ap, ◌∙◌}
use Rattle.std.proofs.Math.ListN.{get_or-map}
use Rattle.std.proofs.lemmas.List.{length-map}
use Rattle.arithmetic.proofs.SumLaws.{sum_cong}
use Rattle.units.specs.declared.AreaUnits.{AreaUnits}
use Rattle.projection.specs.Projection.{area_total}
use Rattle.wire.specs.Bytes.{total}
use Rattle.wire.proofs.NumbersLaws.{total-entries}
use Rattle.dossier.specs.Records.{units}
use Rattle.opening.specs.Amounts.{amounts}

pub total_amounts : (areas : List AreaUnits) → length areas ≡ 12 → total (amounts areas) ≡ area_total areas
total_amounts areas twelve =
    let entries = rw (length-map, twelve) at (total-entries (amounts areas)) in
    entries ∙ sum_cong 12 _ _ (λ k h. get_or-map (λ (area : AreaUnits). area.0) areas k (record { 0 = 0 }))

pub units_amounts : (areas : List AreaUnits) → units (amounts areas) ≡ areas
units_amounts [] = refl
units_amounts (area ∷ areas) = ap (λ (rest : List AreaUnits). area ∷ rest) (units_amounts areas)
