use Rattle.std.proofs.Common.{◌≡◌, ℕ, ◌<◌, ◌^◌, List, pos, take, drop}
use Rattle.std.proofs.lemmas.List.Edits.{sets}
use Rattle.wire.specs.Signed.{figures_bytes}
use Rattle.figures.specs.declared.Figures.{Figures}
use Rattle.periods.specs.Periods.{credited_in, issued_after, totals_at, issued_tonnes}
use Rattle.periods.proofs.write_issued.Given as goal

-- after i ends: all tonnes issued by then, and what is still to be issued
pub record SoFar (figures : List Figures) (first : ℕ) (ends : List ℕ) (at : ℕ) (buffer₀ buffer : List ℕ) (before i : ℕ) : Type 0 where
  pub issued : before < 2 ^ 63
  pub stored : buffer ≡ sets buffer₀ at (figures_bytes (take i (issued_tonnes first (credited_in figures) ends)))
  pub rest : drop i (issued_tonnes first (credited_in figures) ends) ≡ issued_after (pos before) (totals_at first (credited_in figures) (drop i ends))

abbrev pub invariant-loop-i : goal.invariant-loop-i
invariant-loop-i l = SoFar l.figures l.first l.ends l.at l.initial.buffer l.buffer l.before l.i
