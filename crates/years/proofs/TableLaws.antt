-- A table of conversions, from what is said of its carbon.
-- Assumes nothing.
use Rattle.std.proofs.Common.{ℕ, ◌≡◌, List, [], sym, refl}
use Rattle.units.specs.declared.CarbonUnits.{CarbonUnits}
use Rattle.figures.specs.Figures.{monitored_carbon}
use Rattle.dossier.specs.Reader.{refused, accepted, followed}
use Rattle.dossier.specs.JudgingRecords.{conversions}
use Rattle.dossier.proofs.ReaderLaws.{made_no, made-yes}
use Rattle.tables.specs.Answers.{monitored_table}
use Rattle.plans.specs.Answers.{value_or}

module _ (factor : ℕ → ℕ → ℕ) (mark total : ℕ) (s : List ℕ) where
  pub table_refused : (n : ℕ) → refused n ≡ monitored_table factor mark total s → conversions mark total s ≡ refused n
  unfolding monitored_table followed
  table_refused n e = sym (made_no (conversions mark total s) _ n e)

  module _ (carbon : CarbonUnits) (rest : List ℕ) (e : accepted carbon rest ≡ monitored_table factor mark total s) where
    pub table_read : conversions mark total s ≡ accepted (value_or [] (conversions mark total s)) rest
    unfolding monitored_table followed
    table_read = let m = made-yes (conversions mark total s) _ carbon rest e in rw (← m.judged) refl

    pub table_carbon : carbon ≡ record { 0 = monitored_carbon factor (value_or [] (conversions mark total s)) }
    unfolding monitored_table followed
    table_carbon = let m = made-yes (conversions mark total s) _ carbon rest e in rw (← m.judged) m.made
