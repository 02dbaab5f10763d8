-- Both readers refuse the same tables and give the same entries, for the contract that both meet leaves one result.
-- Assumes nothing.
use Prim.Native.Nat.{ℕ, zero, suc, ◌+◌, ◌*◌, ◌≤◌, ◌<◌}
use mathlib.Core.Path.{◌≡◌, refl, sym, ap, ◌∙◌}
use mathlib.Core.Bool.{Bool, true, false, cond}
use mathlib.Core.List.{List, [], ◌++◌}
use native.Mathlib.Nat.{zero-add, mul-one, mul-zero}
use native.Mathlib.Omega.{arith}
use lib.Dec.{eqb}
use lib.ListN.{length, drop, get_or}
use borrow.Author.Tests.{eqb-true, eqb-false, eq-eqb, ne_eqb}
use Rattle.std.proofs.Common.{Result, Ok, Err, IsOk}
use Rattle.arithmetic.specs.Sum.{sum}
use Rattle.arithmetic.proofs.SumLaws.{sum_cong, length-listed, listed_le, get_or-listed}
use Rattle.units.specs.declared.CarbonUnits.{CarbonUnits}
use Rattle.refusals.specs.declared.Refusal.{Refusal}
use Rattle.refusals.specs.declared.Refusal.TheVariants.{BytesMissing, MarkNotDue, HeadOutOfRange, AreaTotalWrong, RowSumWrong, YearWrong, ConversionTotalWrong, ActivityOutOfRange, TooManyActivities, BufferTooShort, StockOutOfRange, PlanNotOfForm, PlannedYearWrong, RecordRepeated, PeriodEndsWrong}
use Rattle.refusals.specs.Refusals.{number_of}
use Rattle.classes.specs.Classes.{greatest_area, greatest_stock}
use Rattle.classes.specs.Matrix.{entry}
use Rattle.figures.specs.Figures.{monitored_carbon}
use Rattle.figures.proofs.FiguresLaws.{monitored_places}
use Rattle.wire.specs.Bytes.{bytes, numbers, total}
use Rattle.dossier.specs.Reader.{Judged, refused, accepted, after, give, fields, equal, followed}
use Rattle.dossier.specs.JudgingRecords.{conversions}
use Rattle.dossier.specs.Claims.{number_of as judged_number}
use Rattle.dossier.proofs.ReaderLaws.{no, never, was, begin-yes}
use Rattle.cursor.specs.Says.{says}
use Rattle.tables.specs.Answers.{monitored_table}
use Rattle.tables.specs.Readers.{Factors, Answer, Reads, only, SameTables}

-- ---- what a result says settles it
seven-is : (refusal : Refusal) → number_of refusal ≡ 7 → refusal ≡ ConversionTotalWrong
seven-is ConversionTotalWrong e = refl
seven-is BytesMissing e = absurd (omega arith)
seven-is MarkNotDue e = absurd (omega arith)
seven-is HeadOutOfRange e = absurd (omega arith)
seven-is AreaTotalWrong e = absurd (omega arith)
seven-is RowSumWrong e = absurd (omega arith)
seven-is YearWrong e = absurd (omega arith)
seven-is ActivityOutOfRange e = absurd (omega arith)
seven-is TooManyActivities e = absurd (omega arith)
seven-is BufferTooShort e = absurd (omega arith)
seven-is StockOutOfRange e = absurd (omega arith)
seven-is PlanNotOfForm e = absurd (omega arith)
seven-is PlannedYearWrong e = absurd (omega arith)
seven-is RecordRepeated e = absurd (omega arith)
seven-is PeriodEndsWrong e = absurd (omega arith)

is_refused : (r : Result CarbonUnits Refusal) (rest : List ℕ) → says (λ carbon. carbon) r rest ≡ refused 7 → r ≡ Err ConversionTotalWrong
is_refused (Ok carbon) rest e = never _ _ _ e
is_refused (Err refusal) rest e = ap (λ (x : Refusal). Err x) (seven-is refusal (ap judged_number e))

is_read : (r : Result CarbonUnits Refusal) (rest : List ℕ) (carbon : CarbonUnits) (u : List ℕ) → says (λ carbon. carbon) r rest ≡ accepted carbon u → (r ≡ Ok carbon) × (rest ≡ u)
is_read (Ok found) rest carbon u e = let (value, left) = was e in (ap (λ (x : CarbonUnits). Ok x) value, left)
is_read (Err refusal) rest carbon u e = no _ _ _ e

-- ---- the factors that single an entry out
sum-before : (n : ℕ) (f : ℕ → ℕ) (k : ℕ) → n ≤ k → sum n (λ i. f i * cond (eqb i k) 1 0) ≡ 0
unfolding sum
sum-before zero f k h = refl
sum-before (suc n) f k h = rw (sum-before n f k (omega arith), ne_eqb n k (λ e. omega arith), mul-zero)

sum-only : (n : ℕ) (f : ℕ → ℕ) (k : ℕ) → k < n → sum n (λ i. f i * cond (eqb i k) 1 0) ≡ f k
unfolding sum
sum-only zero f k h = let z : ⊥ = omega arith in absurd z
sum-only (suc n) f k h = go (eqb n k) refl (sum-only n f k)
  where
    go : (b : Bool) → eqb n k ≡ b → (k < n → sum n (λ i. f i * cond (eqb i k) 1 0) ≡ f k) → sum n (λ i. f i * cond (eqb i k) 1 0) + f n * cond (eqb n k) 1 0 ≡ f k
    go true e before = rw (e, sum-before n f k (omega (arith, eqb-true n k e)), mul-one, eqb-true n k e, zero-add)
    go false e before = rw (e, mul-zero) (omega (arith, before (omega (arith, eqb-false n k e))))

only_fits : (k : ℕ) → Factors (only k)
only_fits k = (length-listed 144 (λ i. cond (eqb i k) 1 0), listed_le 144 (λ i. cond (eqb i k) 1 0) greatest_stock (λ i. go (eqb i k)))
  where
    go : (b : Bool) → cond b 1 0 ≤ greatest_stock
    go true = omega arith
    go false = omega arith

only-carbon : (xs : List ℕ) (k : ℕ) → k < 144 → monitored_carbon (entry (only k)) xs ≡ get_or xs k 0
only-carbon xs k h =
    sym (monitored_places xs (only k))
    ∙ sum_cong 144 (λ i. get_or xs i 0 * get_or (only k) i 0) (λ i. get_or xs i 0 * cond (eqb i k) 1 0) (λ i l. rw (get_or-listed {A = ℕ} 144 (λ i. cond (eqb i k) 1 0) i 0 l))
    ∙ sum-only 144 (λ i. get_or xs i 0) k h

-- ---- a mark, 1,152 bytes and whatever follows
module _ (mark settled_total : ℕ) (body : List ℕ) (h : mark < 65536) (full : 1152 ≤ length body) where
  judged : conversions mark settled_total (bytes 2 mark ++ body) ≡ cond (eqb (total (numbers 144 8 body)) settled_total) (accepted (numbers 144 8 body) (drop 1152 body)) (refused 7)
  unfolding conversions followed fields equal give
  judged = rw (begin-yes mark 1152 body h full) (go (eqb (total (numbers 144 8 body)) settled_total))
    where
      go : (b : Bool) → after (cond b (accepted (tt {0}) (drop 1152 body)) (refused 7)) (λ _ s. accepted (numbers 144 8 body) s)
          ≡ cond b (accepted (numbers 144 8 body) (drop 1152 body)) (refused 7)
      go true = refl
      go false = refl

  -- what both readers say of it by a table of factors
  table_says : (factors : List ℕ) → monitored_table (entry factors) mark settled_total (bytes 2 mark ++ body)
      ≡ cond (eqb (total (numbers 144 8 body)) settled_total) (accepted (record { 0 = monitored_carbon (entry factors) (numbers 144 8 body) }) (drop 1152 body)) (refused 7)
  unfolding monitored_table followed give
  table_says factors = rw judged (go (eqb (total (numbers 144 8 body)) settled_total))
    where
      go : (b : Bool) → ◌≡◌ {A = Judged CarbonUnits} (after (cond b (accepted (numbers 144 8 body) (drop 1152 body)) (refused 7)) (λ xs s. accepted (record { 0 = monitored_carbon (entry factors) xs }) s))
          (cond b (accepted (record { 0 = monitored_carbon (entry factors) (numbers 144 8 body) }) (drop 1152 body)) (refused 7))
      go true = refl
      go false = refl

  module _ (small : settled_total ≤ greatest_area) (answer : List ℕ → Answer) (reads : Reads mark settled_total (bytes 2 mark ++ body) answer) (factors : List ℕ) (fit : Factors factors) where
    said : says (λ carbon. carbon) (answer factors).result (answer factors).rest
        ≡ cond (eqb (total (numbers 144 8 body)) settled_total) (accepted (record { 0 = monitored_carbon (entry factors) (numbers 144 8 body) }) (drop 1152 body)) (refused 7)
    said = (reads factors small fit).0 ∙ table_says factors

    -- refused 7, and read, by the total of the entries
    wrong : (total (numbers 144 8 body) ≡ settled_total → ⊥) → (answer factors).result ≡ Err ConversionTotalWrong
    wrong f = is_refused (answer factors).result (answer factors).rest (said ∙ rw (ne_eqb _ _ f))

    right : total (numbers 144 8 body) ≡ settled_total → ((answer factors).result ≡ Ok (record { 0 = monitored_carbon (entry factors) (numbers 144 8 body) })) × ((answer factors).rest ≡ drop 1152 body)
    right f = is_read (answer factors).result (answer factors).rest _ (drop 1152 body) (said ∙ rw (eq-eqb _ _ f))

not_both : (r : Result CarbonUnits Refusal) (carbon : CarbonUnits) → r ≡ Ok carbon → r ≡ Err ConversionTotalWrong → ⊥
not_both r carbon e f = never _ _ _ (ap (λ (x : Result CarbonUnits Refusal). says (λ carbon. carbon) x []) (sym e ∙ f))

not_read : (r : Result CarbonUnits Refusal) → IsOk r → r ≡ Err ConversionTotalWrong → ⊥
not_read r ok e = let z : ◌≡◌ {A = ℕ} 0 1 = ap (λ (b : Bool). cond b 1 0) (rw e at ok) in omega arith

pub same_tables : (mark settled_total : ℕ) (body : List ℕ) → mark < 65536 → 1152 ≤ length body → settled_total ≤ greatest_area
    → (before since : List ℕ → Answer) → Reads mark settled_total (bytes 2 mark ++ body) before → Reads mark settled_total (bytes 2 mark ++ body) since → SameTables mark settled_total body before since
same_tables mark settled_total body h full small before since old new = record {
  same = λ factors fit. by_total (eqb (total (numbers 144 8 body)) settled_total) refl factors fit;
  same_rest = λ factors fit ok. rests (eqb (total (numbers 144 8 body)) settled_total) refl factors fit ok;
  seven = λ factors fit. (λ e z. not_both _ _ (read since new factors fit z).0 e, refuse since new factors fit);
  wrapped = λ factors fit n e. refuse since new factors fit (λ z. omega arith);
  entries = λ k l e. (only_fits k, (read since new (only k) (only_fits k) e).0 ∙ rw (only-carbon (numbers 144 8 body) k l));
  judged = judged mark settled_total body h full;
}
  where
    refuse : (answer : List ℕ → Answer) → Reads mark settled_total (bytes 2 mark ++ body) answer → (factors : List ℕ) → Factors factors → (total (numbers 144 8 body) ≡ settled_total → ⊥) → (answer factors).result ≡ Err ConversionTotalWrong
    refuse = wrong mark settled_total body h full small

    read : (answer : List ℕ → Answer) → Reads mark settled_total (bytes 2 mark ++ body) answer → (factors : List ℕ) → Factors factors → total (numbers 144 8 body) ≡ settled_total
        → ((answer factors).result ≡ Ok (record { 0 = monitored_carbon (entry factors) (numbers 144 8 body) })) × ((answer factors).rest ≡ drop 1152 body)
    read = right mark settled_total body h full small

    by_total : (b : Bool) → eqb (total (numbers 144 8 body)) settled_total ≡ b → (factors : List ℕ) → Factors factors → (since factors).result ≡ (before factors).result
    by_total true e factors fit = (read since new factors fit (eqb-true _ _ e)).0 ∙ sym (read before old factors fit (eqb-true _ _ e)).0
    by_total false e factors fit = refuse since new factors fit (eqb-false _ _ e) ∙ sym (refuse before old factors fit (eqb-false _ _ e))

    rests : (b : Bool) → eqb (total (numbers 144 8 body)) settled_total ≡ b → (factors : List ℕ) → Factors factors → IsOk (since factors).result
        → ((since factors).rest ≡ drop 1152 body) × ((before factors).rest ≡ drop 1152 body)
    rests true e factors fit ok = ((read since new factors fit (eqb-true _ _ e)).1, (read before old factors fit (eqb-true _ _ e)).1)
    rests false e factors fit ok = absurd (not_read _ ok (refuse since new factors fit (eqb-false _ _ e)))
