-- The two readers of conversion tables are one: "for any 1,152 bytes and any total up to 10^12 that a table is refused 7 exactly where it was, entries whose
-- 64-bit sum would wrap to the total included, and otherwise gives the same 144 entries". The reader since is `Weighing::read_table` of `tables`; the one before is
-- `tablebench`'s by entries.
-- To be believed. Assumes nothing.
use Rattle.std.specs.Prelude.{ℕ, suc, ◌+◌, ◌*◌, ◌^◌, ◌≤◌, ◌<◌, ◌≡◌, cond, ◌↔◌, List, ◌++◌, eqb, length, drop, get_or, Result, Ok, Err, IsOk, IfOk}
use Rattle.arithmetic.specs.Sum.{listed}
use Rattle.units.specs.declared.CarbonUnits.{CarbonUnits}
use Rattle.refusals.specs.declared.Refusal.{Refusal}
use Rattle.refusals.specs.declared.Refusal.TheVariants.{ConversionTotalWrong}
use Rattle.classes.specs.Classes.{greatest_area, greatest_stock}
use Rattle.classes.specs.Matrix.{entry}
use Rattle.figures.specs.Ranges.{SmallCarbon}
use Rattle.wire.specs.Bytes.{bytes, numbers, total}
use Rattle.dossier.specs.Reader.{refused, accepted}
use Rattle.dossier.specs.JudgingRecords.{conversions}
use Rattle.cursor.specs.Says.{says}
use Rattle.tables.specs.Answers.{monitored_table}

-- a table of factors that a reader may be lent
abbrev pub Factors : List ℕ → Type 0
Factors factors = (length factors ≡ 144) × ((k : ℕ) → get_or factors k 0 ≤ greatest_stock)

-- a reader's answer: its result, and the bytes that are left after it
pub record Answer : Type 0 where
  pub result : Result CarbonUnits Refusal
  pub rest : List ℕ

-- a reader by its answers to these bytes, one for each table of factors: what the contract of both readers says of them
abbrev pub Reads : (mark settled_total : ℕ) (s : List ℕ) → (List ℕ → Answer) → Type 0
Reads mark settled_total s answer =
    (factors : List ℕ) → settled_total ≤ greatest_area → Factors factors
    → (says (λ carbon. carbon) (answer factors).result (answer factors).rest ≡ monitored_table (entry factors) mark settled_total s) × IfOk (answer factors).result (λ carbon. SmallCarbon carbon.0)

-- the factor 1 at place k and 0 elsewhere: by these the carbon is that entry
abbrev pub only : ℕ → List ℕ
only k = listed 144 (λ i. cond (eqb i k) 1 0)

-- both readers where the mark stands, its 1,152 bytes and whatever follows them after it: the body
pub record SameTables (mark settled_total : ℕ) (body : List ℕ) (before since : List ℕ → Answer) : Type 0 where
  pub same : (factors : List ℕ) → Factors factors → (since factors).result ≡ (before factors).result
  pub same_rest : (factors : List ℕ) → Factors factors → IsOk (since factors).result → ((since factors).rest ≡ drop 1152 body) × ((before factors).rest ≡ drop 1152 body)
  pub seven : (factors : List ℕ) → Factors factors → ((since factors).result ≡ Err ConversionTotalWrong) ↔ (total (numbers 144 8 body) ≡ settled_total → ⊥)
  -- sums of 64 bits that wrap to the total are among these
  pub wrapped : (factors : List ℕ) → Factors factors → (n : ℕ) → total (numbers 144 8 body) ≡ settled_total + suc n * 2 ^ 64 → (since factors).result ≡ Err ConversionTotalWrong
  pub entries : (k : ℕ) → k < 144 → total (numbers 144 8 body) ≡ settled_total → Factors (only k) × ((since (only k)).result ≡ Ok (record { 0 = get_or (numbers 144 8 body) k 0 }))
  pub judged : conversions mark settled_total (bytes 2 mark ++ body)
      ≡ cond (eqb (total (numbers 144 8 body)) settled_total) (accepted (numbers 144 8 body) (drop 1152 body)) (refused 7)
