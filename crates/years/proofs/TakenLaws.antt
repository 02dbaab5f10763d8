-- A year's activity records or those of the plan, from what is said of the sum of their emissions.
-- Assumes nothing.
use Rattle.std.proofs.Common.{ℕ, ◌≡◌, Bool, true, false, List, [], Err, sym, refl}
use Rattle.std.proofs.Math.Option.{Option}
use Rattle.activity.specs.Records.{Activity}
use Rattle.refusals.specs.declared.Refusal.{Refusal}
use Rattle.refusals.specs.Refusals.{number_of}
use Rattle.dossier.specs.Marks.{mark_pl}
use Rattle.dossier.specs.Reader.{refused, accepted, is, stands, followed}
use Rattle.dossier.proofs.TakenLaws.{taken_missing}
use Rattle.dossier.specs.Judging.{Taken, taken}
use Rattle.dossier.proofs.ReaderLaws.{made_no, made-yes}
use Rattle.plans.specs.Answers.{value_or}
use Rattle.years.specs.declared.Emissions.{Emissions}
use Rattle.years.specs.Answers.{PartFor, emissions, summed_records}

abbrev nothing_taken : Taken
nothing_taken = record { planned = false; activities = [] }

module _ (from_plan : Option (List Activity)) (s : List ℕ) where
  pub taken_refused : (n : ℕ) → refused n ≡ summed_records from_plan s → taken from_plan s ≡ refused n
  unfolding summed_records followed
  taken_refused n e = sym (made_no (taken from_plan s) _ n e)

  module _ (sum : Emissions) (rest : List ℕ) (e : accepted sum rest ≡ summed_records from_plan s) where
    pub taken_read : taken from_plan s ≡ accepted (value_or nothing_taken (taken from_plan s)) rest
    unfolding summed_records followed
    taken_read = let m = made-yes (taken from_plan s) _ sum rest e in rw (← m.judged) refl

    pub taken_summed : sum ≡ emissions (value_or nothing_taken (taken from_plan s))
    unfolding summed_records followed
    taken_summed = let m = made-yes (taken from_plan s) _ sum rest e in rw (← m.judged) m.made

-- where the plan lacks the year
pub part_refused : (planned : Bool) (from_plan : Option (List Activity)) (plan own s : List ℕ) (refusal : Refusal) → stands (is mark_pl) s ≡ planned
    → PartFor planned from_plan plan own (Err refusal) → refused (number_of refusal) ≡ summed_records from_plan s
unfolding summed_records followed
part_refused true from_plan plan own s refusal h p = rw (p.0, p.1, taken_missing s h) refl
part_refused false from_plan plan own s refusal h p = absurd p
