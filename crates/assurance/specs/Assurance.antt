-- What demand 3 assures after n accepted years with m activity records.
-- To be believed. Assumes nothing.
use Rattle.std.specs.Prelude.{◌≡◌, List, ℕ, ◌+◌, ◌*◌, ◌≤◌, ◌<◌, ℤ, pos}
use Rattle.arithmetic.specs.Fraction.{Fraction, ◌≤ᶠ◌, ◌<ᶠ◌, whole, ◌-ᶠ◌, ◌×ᶠ◌}
use Rattle.units.specs.declared.AreaUnits.{AreaUnits}
use Rattle.classes.specs.Classes.{classes}
use Rattle.projection.specs.Projection.{area, area_total}

-- of project area and belt alike, after y accepted years from a starting area: the twelve projected areas and the balance make up the starting
-- area exactly; no projected area exceeds its unrounded one; the balance is at most 132 × y
pub record RegionAssured (y start : ℕ) (areas : List AreaUnits) (balance : ℕ) (unrounded : ℕ → Fraction) : Type 0 where
  pub area-kept : area_total areas + balance ≡ start
  pub not-above : (i : ℕ) → i < classes → whole (pos (area areas i)) ≤ᶠ unrounded i
  pub small : balance ≤ 132 * y

-- what 25 times the gap stays below, in n accepted years with m activity records: 25 times the bound, which is whole then. "With S the greatest stock
-- used, the owners' bound reads 4.84 × S × n × (n + 1) + 5 × n + m grams" (#102)
abbrev pub gap_bound : (S n m : ℕ) → ℕ
gap_bound S n m = 121 * (S * (n * (n + 1))) + 125 * n + 25 * m

-- of the totals, with S the greatest stock used: reported total ≤ unrounded total; the gap stays below its bound where n ≥ 1; both 0 where n = 0
pub record TotalAssured (S n m : ℕ) (total : ℤ) (unrounded : Fraction) : Type 0 where
  pub never_more : whole total ≤ᶠ unrounded
  pub gap : 0 < n → (unrounded -ᶠ whole total) ×ᶠ 25 <ᶠ whole (pos (gap_bound S n m))
  pub none : n ≡ 0 → (total ≡ pos 0) × (unrounded ≡ whole (pos 0))
