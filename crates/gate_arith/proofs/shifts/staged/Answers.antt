-- One more stage.
use Rattle.gate_arith.proofs.Common.{◌≡◌, ◌<◌, ◌+◌, ◌-◌, false, length, arith, GateId}
use Rattle.gate_arith.proofs.Moved.{count-below, moved-more, moved-whole, not_moved}
use Rattle.gate_arith.proofs.shifts.staged.Goals as goal

pub overflow_mul-count : goal.overflow_mul-count
overflow_mul-count c = omega (arith, count-below c.loop-place.count (length c.args.amount.now) c.loop-place.place c.requires.few c.loop-place.invariant.weight)

pub loop-place-init : goal.loop-place-init
loop-place-init c = not_moved c.args.circuit.now c.args.direction c.args.a.now c.args.amount.now c.in_ok-value.value.items c.requires.a c.in_ok-value.ensures.items

pub loop-place-preserved : goal.loop-place-preserved
loop-place-preserved c =
    let d : GateId = record { index = 0; negated = false } in
    let j = c.loop-place.place - 1 in
    let step : c.loop-place.place ≡ j + 1 = omega arith in
    let lt : j < length c.args.amount.now = omega arith in
    moved-more c.args.circuit.now c.loop-place.circuit c.moved.new.circuit c.choose.new.circuit c.args.direction c.args.a.now c.args.amount.now c.loop-place.value.items c.in_ok-further.further.items c.in_ok-chosen.chosen.items
    c.loop-place.count c.loop-place.place j d step (omega arith) c.loop-place.invariant (c.requires.amount j d lt) c.in_ok-further.ensures.kept (rw c.deref.ensures.value at c.in_ok-further.ensures.made) c.in_ok-chosen.ensures.kept (rw (c.deref-in-loop-place.ensures.value, c.deref-in-loop-place-2.ensures.value) at c.in_ok-chosen.ensures.made)

pub returns-clause-made : goal.returns-clause-made
returns-clause-made c = moved-whole c.args.circuit.now c.loop-place.circuit c.args.direction c.args.a.now c.args.amount.now c.loop-place.value.items c.loop-place.count c.loop-place.place (omega arith) c.loop-place.invariant
