-- The carbon of both tables, from what each is judged to be.
-- Assumes nothing.
use Prim.Native.Nat.{ℕ, ◌+◌}
use mathlib.Core.Path.{◌≡◌, ap, ◌∙◌}
use mathlib.Core.List.{List}
use Rattle.units.specs.declared.CarbonUnits.{CarbonUnits}
use Rattle.dossier.specs.Marks.{mark_cp, mark_cd}
use Rattle.dossier.specs.Reader.{Judged, refused, accepted, ◌>>=◌, give}
use Rattle.dossier.proofs.ReaderLaws.{bind_no, bind-yes}
use Rattle.tables.specs.Answers.{monitored_table}
use Rattle.tablebench.specs.Said.{both_tables, carbon_said}

-- the carbon of the first table, with that of the second
abbrev pub with_carbon : ℕ → Judged CarbonUnits → ℕ
with_carbon project (accepted carbon rest) = project + carbon.0
with_carbon project (refused n) = 0

module _ (factor : ℕ → ℕ → ℕ) (settled_total : ℕ) (u : List ℕ) where
  pub none_said : (n : ℕ) → refused n ≡ monitored_table factor mark_cp settled_total u → 0 ≡ carbon_said (both_tables factor settled_total u)
  unfolding both_tables
  none_said n e = ap carbon_said (bind_no (monitored_table factor mark_cp settled_total) _ u n e)

  pub both_said : (project : CarbonUnits) (v : List ℕ) (belt : Judged CarbonUnits) → accepted project v ≡ monitored_table factor mark_cp settled_total u
      → belt ≡ monitored_table factor mark_cd settled_total v → with_carbon project.0 belt ≡ carbon_said (both_tables factor settled_total u)
  unfolding both_tables give
  both_said project v belt e f = go belt f ∙ ap carbon_said (bind-yes (monitored_table factor mark_cp settled_total) _ u project v e)
    where
      go : (belt : Judged CarbonUnits) → belt ≡ monitored_table factor mark_cd settled_total v
          → with_carbon project.0 belt ≡ carbon_said ((monitored_table factor mark_cd settled_total >>= (λ b. give (project.0 + b.0))) v)
      go (accepted carbon rest) f = ap carbon_said (bind-yes (monitored_table factor mark_cd settled_total) _ v carbon rest f)
      go (refused n) f = ap carbon_said (bind_no (monitored_table factor mark_cd settled_total) _ v n f)
