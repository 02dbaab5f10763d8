-- A year's activity records, from what is said of the sum of their emissions, and from what a plan is found to have.
-- Assumes nothing.
use Rattle.std.proofs.Common.{ℕ, ◌≡◌, List, [], Some, Bor, sym, refl, pos}
use Rattle.std.proofs.Math.Option.{Option as Chosen, none, some}
use Rattle.units.specs.declared.Grams.{Grams}
use Rattle.activity.specs.Records.{Activity}
use Rattle.activity.specs.Activity.{activity_emissions}
use Rattle.dossier.specs.Reader.{refused, accepted, followed}
use Rattle.dossier.specs.Judging.{activities}
use Rattle.dossier.proofs.ReaderLaws.{made_no, made-yes}
use Rattle.activities.specs.Answers.{summed_activities}
use Rattle.plans.specs.Answers.{records_at, Holds, Finds}

-- ---- where the sum of their emissions is read
pub records_refused : (s : List ℕ) (n : ℕ) → refused n ≡ summed_activities s → activities [] s ≡ refused n
unfolding summed_activities followed
records_refused s n e = sym (made_no (activities [] s) _ n e)

module _ (s : List ℕ) (grams : Grams) (rest : List ℕ) (e : accepted grams rest ≡ summed_activities s) where
  pub records_read : activities [] s ≡ accepted (records_at s) rest
  unfolding summed_activities followed
  records_read = let m = made-yes (activities [] s) _ grams rest e in rw (← m.judged) refl

  pub records_summed : grams ≡ record { 0 = pos (activity_emissions (records_at s)) }
  unfolding summed_activities followed
  records_summed = let m = made-yes (activities [] s) _ grams rest e in rw (← m.judged) m.made

-- ---- where a plan has the year
module _ (records : Chosen (List Activity)) (plan : List ℕ) (bytes : Bor (List ℕ)) where
  pub records_found : Finds records plan (Some bytes) → records ≡ some (records_at bytes.now)
  records_found h = go records h
    where
      go : (records : Chosen (List Activity)) → Finds records plan (Some bytes) → records ≡ some (records_at bytes.now)
      go none h = absurd h
      go (some l) h = rw h.holds.judged refl

  pub found-hold : Finds records plan (Some bytes) → Holds (records_at bytes.now) bytes.now
  found-hold h = go records h
    where
      go : (records : Chosen (List Activity)) → Finds records plan (Some bytes) → Holds (records_at bytes.now) bytes.now
      go none h = absurd h
      go (some l) h = record { rest = h.holds.rest; judged = rw h.holds.judged refl }
