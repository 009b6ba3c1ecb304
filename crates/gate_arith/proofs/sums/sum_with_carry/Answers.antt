-- One more bit, by the full adder.
use Rattle.gate_arith.proofs.Common.{◌≡◌, ◌<◌, ◌+◌, ◌-◌, false, length, arith, GateId}
use Rattle.gate_arith.proofs.Adders.{no_sum, sum-more, sum-whole}
use Rattle.gate_arith.proofs.sums.sum_with_carry.Goals as goal

pub loop-place-init : goal.loop-place-init
loop-place-init c = no_sum c.args.circuit.now c.args.a.now c.args.b.now c.args.carry c.new-digits.result.items c.new-digits.ensures.items c.requires.alike c.requires.carry

pub loop-place-preserved : goal.loop-place-preserved
loop-place-preserved c =
    let d : GateId = record { index = 0; negated = false } in
    let j = c.loop-place.place - 1 in
    let step : c.loop-place.place ≡ j + 1 = omega arith in
    let lta : j < length c.args.a.now = omega arith in
    let ltb : j < length c.args.b.now = omega (arith, c.requires.alike) in
    sum-more c.args.circuit.now c.loop-place.circuit c.full_adder.new.circuit c.args.a.now c.args.b.now c.args.carry c.loop-place.passed c.in_ok-digit.next c.in_ok-digit.digit
    c.loop-place.digits.items c.push.new.self.items c.loop-place.place j d c.requires.alike step c.loop-place.invariant (omega arith) (c.requires.a j d lta) (c.requires.b j d ltb)
    c.in_ok-digit.ensures.kept c.in_ok-digit.ensures.sum c.in_ok-push.ensures.items

pub returns-clause-sum : goal.returns-clause-sum
returns-clause-sum c = sum-whole c.args.circuit.now c.loop-place.circuit c.args.a.now c.args.b.now c.args.carry c.loop-place.passed c.loop-place.digits.items c.reverse.new.self.items c.loop-place.place (omega arith) c.reverse.ensures.items c.loop-place.invariant
