-- One more row.
use Rattle.gate_arith.proofs.Common.{◌≡◌, ◌<◌, ◌+◌, ◌-◌, false, length, arith, GateId}
use Rattle.gate_arith.proofs.Rows.{no_rows, product-more, product-whole}
use Rattle.gate_arith.proofs.products.product.Goals as goal

pub loop-place-init : goal.loop-place-init
loop-place-init c = no_rows c.args.circuit.now c.constant.new.self c.args.a.now c.args.b.now c.in_ok-total.total.items c.in_ok-row.row.items c.in_ok-zeros.zeros.items c.in_ok-zero.zero c.in_ok-zero.ensures.kept c.requires.a c.in_ok-zero.ensures.made c.in_ok-total.ensures c.in_ok-row.ensures.items c.in_ok-zeros.ensures

pub loop-place-preserved : goal.loop-place-preserved
loop-place-preserved c =
    let d : GateId = record { index = 0; negated = false } in
    let j = c.loop-place.place - 1 in
    let step : c.loop-place.place ≡ j + 1 = omega arith in
    let lt : j < length c.args.b.now = omega arith in
    product-more c.args.circuit.now c.loop-place.circuit c.choose.new.circuit c.sum.new.circuit c.doubled.new.circuit c.args.a.now c.args.b.now c.loop-place.total.items c.loop-place.row.items
    c.in_ok-zeros.zeros.items c.in_ok-chosen.chosen.items c.in_ok-more.more.items c.in_ok-next.next.items d c.loop-place.place j step (omega arith) c.loop-place.invariant (c.requires.b j d lt)
    c.in_ok-chosen.ensures.kept (rw (c.deref.ensures.value, c.deref-in-loop-place.ensures.value) at c.in_ok-chosen.ensures.made)
    c.in_ok-more.ensures.kept (rw (c.deref-in-loop-place-2.ensures.value, c.deref-in-loop-place-3.ensures.value) at c.in_ok-more.ensures.made)
    c.in_ok-next.ensures.kept (rw c.deref-in-loop-place-4.ensures.value at c.in_ok-next.ensures.made)

pub returns-clause-made : goal.returns-clause-made
returns-clause-made c = product-whole c.args.circuit.now c.loop-place.circuit c.args.a.now c.args.b.now c.loop-place.total.items c.loop-place.row.items c.in_ok-zeros.zeros.items c.loop-place.place (omega arith) c.loop-place.invariant
