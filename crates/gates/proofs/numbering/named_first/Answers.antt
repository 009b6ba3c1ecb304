-- The next input that is named gets the next variable.
use Rattle.gates.proofs.Common.{◌<◌, length, arith, false, get_or, GateId}
use Rattle.gates.proofs.Named.{at_place, named-next}
use Rattle.gates.proofs.numbering.named_first.Goals as goal

pub loop-a-preserved : goal.loop-a-preserved
loop-a-preserved c =
    let lt : c.loop-a.a-index < length c.args.order.now = omega arith in
    let d : GateId = record { index = 0; negated = false } in
    rw (c.in_ok-add.ensures.number, c.in_ok-add.ensures.gates)
    (named-next c.args.count c.loop-a.numbering.number.items c.loop-a.numbering.gate_of.items c.args.order.now c.loop-a.a-index c.loop-a.invariant c.requires.apart
    (get_or c.args.order.now c.loop-a.a-index d) (at_place c.args.order.now c.loop-a.a-index d lt) (c.requires.within c.loop-a.a-index d lt))
