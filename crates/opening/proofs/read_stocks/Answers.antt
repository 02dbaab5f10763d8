use Rattle.std.proofs.Common.{◌≡◌, ◌<◌, ℕ, List, drop, get_or, refl, ◌∙◌, arith, rules}
use borrow.Author.Count.{below_more, below_none}
use Rattle.classes.specs.Classes.{greatest_stock}
use Rattle.wire.specs.Bytes.{numbers}
use Rattle.dossier.specs.Marks.{mark_st}
use Rattle.dossier.specs.Reader.{refused, accepted, begin, fields, give, equal, followed, ◌>>◌}
use Rattle.dossier.specs.JudgingRecords.{stocks}
use Rattle.dossier.proofs.EachLaws.{within_tests, each-yes, each_wrong}
use Rattle.opening.proofs.Reading.{none-read, next-is, next-read, all-read}
use Rattle.opening.proofs.read_stocks.Invariants.{SoFar}
use Rattle.opening.proofs.read_stocks.Goals as goal

module _ (old s : List ℕ) (begun : accepted tt s ≡ begin mark_st 24 old) where
  abbrev stock : ℕ → ℕ
  stock i = get_or (numbers 12 2 s) i 0

  above : (i : ℕ) → i < 12 → greatest_stock < stock i → refused 11 ≡ stocks old
  unfolding stocks followed fields
  above i l over =
      let fails = each_wrong (within_tests 11 0 stock greatest_stock) 12 (drop 24 s) i l (λ within. omega (arith, within.most)) in
      rw (← begun, fails)

  all_small : (xs rest : List ℕ) → SoFar s xs rest 12 → (equal 11 (get_or xs 11 0) 0 >> give xs) rest ≡ stocks old
  unfolding stocks followed fields
  all_small xs rest so_far =
      let (stored, left) = all-read 12 2 s xs rest so_far.read in
      let passes = each-yes (within_tests 11 0 stock greatest_stock) 12 (drop 24 s) (λ i l. record { least = omega arith; most = so_far.small i l }) in
      rw (← begun, passes, stored, left)

pub loop-stock-init : goal.loop-stock-init
loop-stock-init c = record { read = none-read 12 2 _ _ refl c.in_ok-begin.ensures.room; small = below_none _ }

pub returns-then-filed-gt-GREATEST_STOCK : goal.returns-then-filed-gt-GREATEST_STOCK
returns-then-filed-gt-GREATEST_STOCK c =
    let next = next-is 12 2 _ _ _ _ c.loop-stock.invariant.read c.loop-stock-test.true in
    above _ _ c.in_ok-begin.ensures.value c.loop-stock.stock-index (omega arith) (omega arith)

pub loop-stock-preserved : goal.loop-stock-preserved
loop-stock-preserved c =
    let k = c.loop-stock.invariant in
    let next = next-is 12 2 _ _ _ _ k.read c.loop-stock-test.true in
    record {
      read = rw c.u16.ensures.rest (next-read 12 2 _ _ _ _ k.read _ c.loop-stock-test.true (c.from-filed.ensures ∙ c.u16.ensures.value));
      small = below_more _ _ k.small (omega arith);
    }

pub returns-in_err-equal : goal.returns-in_err-equal
unfolding followed
returns-in_err-equal c =
    let e : c.loop-stock.stock-index ≡ 12 = omega arith in
    let fails = rw (← c.in_err-equal.ensures.value) at (all_small _ _ c.in_ok-begin.ensures.value _ _ (rw e at c.loop-stock.invariant)) in
    search (rules, fails)

pub returns : goal.returns
unfolding followed give
returns c =
    let e : c.loop-stock.stock-index ≡ 12 = omega arith in
    rw (← c.in_ok-equal.ensures.value) at (all_small _ _ c.in_ok-begin.ensures.value _ _ (rw e at c.loop-stock.invariant))
