use Rattle.std.proofs.Common.{◌≡◌, ◌≤◌, ◌<◌, ◌+◌, ℕ, List, length, drop, refl, arith, rules}
use Rattle.std.proofs.lemmas.List.{map-set, length-map}
use Rattle.classes.specs.Classes.{greatest_area}
use Rattle.wire.specs.Bytes.{numbers, total}
use Rattle.wire.proofs.NumbersLaws.{total-le}
use Rattle.dossier.specs.Reader.{refused, accepted, begin, fields, give, within, followed, ◌>>◌}
use Rattle.dossier.specs.JudgingRecords.{areas}
use Rattle.dossier.proofs.ReaderLaws.{within-above}
use Rattle.opening.specs.Amounts.{amounts}
use Rattle.std.proofs.lemmas.Grind.{common_steps}
use Rattle.opening.proofs.AmountLaws.{total_amounts}
use Rattle.opening.proofs.Reading.{none-read, next-total, next-read, all-read}
use Rattle.opening.proofs.read_areas.Invariants.{SoFar}
use Rattle.opening.proofs.read_areas.Goals as goal

module _ (old s : List ℕ) (mark least : ℕ) (begun : accepted tt s ≡ begin mark 96 old) where
  abbrev sum : ℕ → ℕ
  sum i = total (numbers i 8 s)

  above : (i : ℕ) → i ≤ 12 → greatest_area < sum i → refused 4 ≡ areas mark least old
  unfolding areas followed fields
  above i l over =
      let fails = within-above 4 least (sum 12) greatest_area (drop 96 s) (omega (arith, total-le i 12 8 s l)) in
      rw (← begun, fails)

  totalled : (xs rest : List ℕ) (n : ℕ) → SoFar s xs rest n 12 → (within 4 least n greatest_area >> give xs) rest ≡ areas mark least old
  unfolding areas followed fields
  totalled xs rest n so_far =
      let (stored, left) = all-read 12 8 s xs rest so_far.read in
      rw (← begun, stored, left, so_far.summed)

pub loop-area-init : goal.loop-area-init
unfolding numbers total
loop-area-init c = record { read = none-read 12 8 _ _ refl c.in_ok-begin.ensures.room; summed = refl; most = omega arith }

pub returns-then-lt : goal.returns-then-lt
returns-then-lt c =
    let k = c.loop-area.invariant in
    let next = next-total 12 8 _ _ _ _ k.read in
    above _ _ _ _ c.in_ok-begin.ensures.value (c.loop-area.area-index + 1) (omega arith) (grind (arith, common_steps, next))

pub loop-area-preserved : goal.loop-area-preserved
loop-area-preserved c =
    let k = c.loop-area.invariant in
    let next = next-total 12 8 _ _ _ _ k.read in
    record {
      read = rw (map-set, c.u64.ensures.rest) (next-read 12 8 _ _ _ _ k.read _ c.loop-area-test.true c.u64.ensures.value);
      summed = omega arith;
      most = grind (arith, common_steps);
    }

pub returns-in_err-within : goal.returns-in_err-within
unfolding followed
returns-in_err-within c =
    let e : c.loop-area.area-index ≡ 12 = omega arith in
    let fails = rw (← c.in_err-within.ensures.value) at (totalled _ _ _ c.args.least c.in_ok-begin.ensures.value _ _ _ (rw e at c.loop-area.invariant)) in
    search (rules, fails)

pub invariant_of-result : goal.invariant_of-result
invariant_of-result c =
    let e : c.loop-area.area-index ≡ 12 = omega arith in
    let k = rw e at c.loop-area.invariant in
    let stored = (all-read 12 8 _ _ _ k.read).0 in
    let summed : c.loop-area.total.0 ≡ total (amounts c.loop-area.area-items) = rw stored k.summed in
    let count : length c.loop-area.area-items ≡ 12 = rw length-map at k.read.count in
    record { summed = summed; small = k.most; fits = omega (arith, total_amounts c.loop-area.area-items count) }

pub returns : goal.returns
unfolding followed give
returns c =
    let e : c.loop-area.area-index ≡ 12 = omega arith in
    rw (← c.in_ok-within.ensures.value) at (totalled _ _ _ c.args.least c.in_ok-begin.ensures.value _ _ _ (rw e at c.loop-area.invariant))
