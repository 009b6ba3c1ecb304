-- One more step.
use Rattle.gate_arith.proofs.Common.{◌<◌, false, length, arith, GateId}
use Rattle.gate_arith.proofs.Steps.{division-more, division-quotient, division-remainder, no_steps}
use Rattle.gate_arith.proofs.quotients.divided.Goals as goal

pub loop-i-init : goal.loop-i-init
loop-i-init c = no_steps c.args.circuit.now c.constant.new.self c.args.a.now c.args.b.now c.in_ok-left.left.items c.new-digits.result.items c.in_ok-zero.zero c.in_ok-zero.ensures.kept c.in_ok-zero.ensures.made c.in_ok-left.ensures c.new-digits.ensures.items

pub loop-i-preserved : goal.loop-i-preserved
loop-i-preserved c =
    let d : GateId = record { index = 0; negated = false } in
    let lt : c.loop-i.i < length c.args.a.now = omega arith in
    division-more c.args.circuit.now c.loop-i.circuit c.bring_down.new.circuit c.args.a.now c.args.b.now c.loop-i.left.items c.loop-i.digits.items c.in_ok-next.next.left.items c.push.new.self.items
    c.in_ok-next.next.digit d c.loop-i.i c.requires.alike lt c.loop-i.invariant c.requires.a c.requires.b c.in_ok-next.ensures.kept (rw c.deref.ensures.value at c.in_ok-next.ensures.made) c.in_ok-push.ensures.items

pub returns-clause-quotient : goal.returns-clause-quotient
returns-clause-quotient c = division-quotient c.args.circuit.now c.loop-i.circuit c.args.a.now c.args.b.now c.loop-i.left.items c.loop-i.digits.items c.loop-i.i (omega arith) c.loop-i.invariant

pub returns-clause-remainder : goal.returns-clause-remainder
returns-clause-remainder c = division-remainder c.args.circuit.now c.loop-i.circuit c.args.a.now c.args.b.now c.loop-i.left.items c.loop-i.digits.items c.loop-i.i c.requires.alike (omega arith) c.loop-i.invariant
