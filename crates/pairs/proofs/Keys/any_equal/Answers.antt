use Rattle.std.proofs.Common.{◌≡◌, false, length, take, sym, ◌∙◌, arith}
use Rattle.pairs.specs.Pairs.{keys, is_among}
use Rattle.pairs.proofs.PairsLaws.{key_at, keys_take, unflagged, passed_next}
use Rattle.pairs.proofs.Keys.any_equal.Goals as goal
use Rattle.pairs.proofs.Keys.any_equal.Goals.{else-flags-slot-via-then-flags-slot+else-is_among, else-flags-slot-via-else-flags-slot}

pub loop-k-preserved : goal.loop-k-preserved
loop-k-preserved c =
    let low = c.as_slice-low.result.now in
    let high = c.as_slice-high.result.now in
    let k = c.loop-k.k in
    let same : length low ≡ length high = cc in
    let none : is_among (take k (keys low high)) (key_at low high k) ≡ false =
    elim c.else-flags-slot.branch [
      | else-flags-slot-via-then-flags-slot+else-is_among w ↦ rw (← keys_take k low high) (sym w.is_among.ensures ∙ w.if-is_among.false)
      | else-flags-slot-via-else-flags-slot w ↦ unflagged c.loop-k.invariant (key_at low high k) _ c.slot_of-slot.ensures.value w.if-flags-slot.false
    ] in
    passed_next low high k _ c.loop-k.invariant (omega arith) same c.slot_of-slot.ensures.value c.slot_of-slot.ensures.bound none
