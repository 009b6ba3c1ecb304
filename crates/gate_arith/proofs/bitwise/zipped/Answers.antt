-- One more bit.
use Rattle.gate_arith.proofs.Common.{◌<◌, false, length, arith, GateId}
use Rattle.gate_arith.proofs.Zips.{no_places, zip-more, zip-whole}
use Rattle.gate_arith.proofs.bitwise.zipped.Goals as goal

pub loop-i-init : goal.loop-i-init
loop-i-init c = no_places c.args.circuit.now c.args.op c.args.a.now c.args.b.now c.new-digits.result.items c.new-digits.ensures.items

pub loop-i-preserved : goal.loop-i-preserved
loop-i-preserved c =
    let d : GateId = record { index = 0; negated = false } in
    let lta : c.loop-i.i < length c.args.a.now = omega arith in
    let ltb : c.loop-i.i < length c.args.b.now = omega (arith, c.requires.alike) in
    zip-more c.args.circuit.now c.loop-i.circuit c.bit.new.circuit c.args.op c.args.a.now c.args.b.now c.loop-i.digits.items c.push.new.self.items c.in_ok-digit.digit d c.loop-i.i
    c.loop-i.invariant c.requires.op lta ltb (c.requires.a c.loop-i.i d lta) (c.requires.b c.loop-i.i d ltb) c.in_ok-digit.ensures.kept c.in_ok-digit.ensures.made c.in_ok-push.ensures.items

pub returns-clause-zip : goal.returns-clause-zip
returns-clause-zip c = zip-whole c.args.circuit.now c.loop-i.circuit c.args.op c.args.a.now c.args.b.now c.loop-i.digits.items c.loop-i.i c.requires.alike (omega arith) c.loop-i.invariant
