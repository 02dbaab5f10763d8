use Rattle.std.proofs.Common.{◌≡◌, ◌<◌, ◌+◌, ◌*◌, ℕ, List, drop, refl, sym, ◌∙◌, arith, add_assoc}
use borrow.Author.Count.{below_more, below_none}
use Rattle.arithmetic.specs.Sum.{sum}
use Rattle.arithmetic.proofs.SumLaws.{sum-none, sum-next}
use Rattle.classes.specs.Classes.{classes}
use Rattle.classes.specs.Matrix.{entry, million}
use Rattle.wire.specs.Bytes.{numbers}
use Rattle.dossier.specs.Reader.{refused, accepted, fields, give, followed}
use Rattle.dossier.specs.JudgingRecords.{matrix}
use Rattle.dossier.proofs.EachLaws.{equal_tests, each-yes, each_wrong}
use Rattle.opening.proofs.Reading.{none-read, next-is, next-read, all-read}
use Rattle.opening.proofs.read_matrix.Invariants.{SoFar}
use Rattle.opening.proofs.read_matrix.Goals as goal

module _ (old entries rest : List ℕ) where
  wrong : (row filed : ℕ) → SoFar old entries rest row 12 filed → row < 12 → (filed ≡ million → ⊥) → refused 5 ≡ matrix old
  unfolding matrix followed fields
  wrong row filed so_far l f =
      let tests = equal_tests 5 (λ i. sum classes (entry (numbers 144 4 so_far.bytes) i)) (λ i. million) in
      let fails = each_wrong tests 12 (drop 576 so_far.bytes) row l (λ whole. f (so_far.summed ∙ whole)) in
      rw (← so_far.begun, fails)

  right : (filed : ℕ) → SoFar old entries rest 12 0 filed → accepted entries rest ≡ matrix old
  unfolding matrix followed fields give
  right filed so_far =
      let (stored, left) = all-read 144 4 so_far.bytes entries rest so_far.read in
      let tests = equal_tests 5 (λ i. sum classes (entry (numbers 144 4 so_far.bytes) i)) (λ i. million) in
      let passes = each-yes tests 12 (drop 576 so_far.bytes) so_far.whole in
      rw (← so_far.begun, passes, stored, left)

pub loop-row-init : goal.loop-row-init
loop-row-init c = record {
  bytes = c.begin.new.self;
  begun = c.in_ok-begin.ensures.value;
  read = none-read 144 4 _ _ refl c.in_ok-begin.ensures.room;
  whole = below_none _;
  summed = sym (sum-none _);
  most = omega arith;
}

pub loop-column-preserved : goal.loop-column-preserved
loop-column-preserved c =
    let k = c.loop-column.invariant in
    let inside : 12 * c.loop-row.row + c.loop-column.column < 144 = omega arith in
    let next = next-is 144 4 _ _ _ _ k.read inside in
    record {
      bytes = k.bytes;
      begun = k.begun;
      read = rw (c.place.ensures, ← add_assoc, c.u32.ensures.rest) (next-read 144 4 _ _ _ _ k.read _ inside (c.from-probability.ensures ∙ c.u32.ensures.value));
      whole = k.whole;
      summed = rw sum-next (omega arith);
      most = omega arith;
    }

pub returns-then-sum-ne-ROW_SUM : goal.returns-then-sum-ne-ROW_SUM
returns-then-sum-ne-ROW_SUM c =
    let e : c.loop-column.column ≡ 12 = omega arith in
    wrong _ _ _ _ _ (rw e at c.loop-column.invariant) c.loop-row-test.true c.if-sum-ne-ROW_SUM.true

pub loop-row-preserved : goal.loop-row-preserved
loop-row-preserved c =
    let e : c.loop-column.column ≡ 12 = omega arith in
    let k = rw e at c.loop-column.invariant in
    let f : 12 * c.loop-row.row + 12 ≡ 12 * (c.loop-row.row + 1) + 0 = omega arith in
    record {
      bytes = k.bytes;
      begun = k.begun;
      read = rw f at k.read;
      whole = below_more _ _ k.whole (sym k.summed ∙ c.if-sum-ne-ROW_SUM.false);
      summed = sym (sum-none _);
      most = omega arith;
    }

pub returns : goal.returns
returns c =
    let e : c.loop-row.row ≡ 12 = omega arith in
    right _ _ _ _ (rw e at c.loop-row.invariant)
