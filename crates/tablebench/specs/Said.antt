-- What both calls of the benchmark answer: the carbon of the two tables of a year together, and 0 where one is refused.
-- Serves the contracts of this crate; nothing here has to be believed. Assumes nothing.
use Rattle.std.specs.Prelude.{ℕ, ◌≡◌, ◌+◌, List, Result, IfOk}
use Rattle.std.specs.Borrow.{MutBor}
use Rattle.units.specs.declared.CarbonUnits.{CarbonUnits}
use Rattle.refusals.specs.declared.Refusal.{Refusal}
use Rattle.figures.specs.Ranges.{SmallCarbon}
use Rattle.dossier.specs.Marks.{mark_cp, mark_cd}
use Rattle.dossier.specs.Reader.{Judged, refused, accepted, Reader, ◌>>=◌, give}
use Rattle.cursor.specs.Says.{says}
use Rattle.tables.specs.Answers.{monitored_table}

-- a way to read tables of this total by these factors: what its calls give, from the bytes that were left before it to those after it
abbrev pub ReadsTables : (factor : ℕ → ℕ → ℕ) (settled_total : ℕ) → (MutBor (List ℕ) → ℕ → Result CarbonUnits Refusal → MutBor (List ℕ) → Type 0) → Type 0
ReadsTables factor settled_total Gives =
    (before : MutBor (List ℕ)) (mark : ℕ) (result : Result CarbonUnits Refusal) (after : MutBor (List ℕ)) → Gives before mark result after
    → (says (λ carbon. carbon) result after.now ≡ monitored_table factor mark settled_total before.now) × IfOk result (λ carbon. SmallCarbon carbon.0)

unfoldable pub both_tables : (ℕ → ℕ → ℕ) → ℕ → Reader ℕ
both_tables factor settled_total = do
  project ← monitored_table factor mark_cp settled_total
  belt ← monitored_table factor mark_cd settled_total
  give (project.0 + belt.0)

abbrev pub carbon_said : Judged ℕ → ℕ
carbon_said (accepted carbon rest) = carbon
carbon_said (refused n) = 0

-- carbon as a number
abbrev pub amount : CarbonUnits → ℕ
amount carbon = carbon.0
