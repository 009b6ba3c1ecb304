-- One more bit, by its index.
use Rattle.gate_arith.proofs.Common.{◌≡◌, ◌+◌, ◌-◌, arith}
use Rattle.gate_arith.proofs.Known.{constant-more, constant-whole, no_constant}
use Rattle.gate_arith.proofs.places.constant.Goals as goal

pub loop-place-init : goal.loop-place-init
loop-place-init c = no_constant c.args.circuit.now c.args.value c.args.width c.new-digits.result.items c.new-digits.ensures.items c.requires.fits

pub loop-place-preserved : goal.loop-place-preserved
loop-place-preserved c =
    let j = c.loop-place.place - 1 in
    let step : c.loop-place.place ≡ j + 1 = omega arith in
    constant-more c.args.circuit.now c.loop-place.circuit c.constant.new.self c.args.value c.args.width c.loop-place.digits.items c.push.new.self.items c.in_ok-digit.digit c.has_bit.result
    c.loop-place.place j step c.loop-place.invariant c.in_ok-digit.ensures.kept c.in_ok-digit.ensures.made c.has_bit.ensures c.in_ok-push.ensures.items

pub returns-clause-made : goal.returns-clause-made
returns-clause-made c = constant-whole c.args.circuit.now c.loop-place.circuit c.args.value c.args.width c.loop-place.digits.items c.loop-place.place (omega arith) c.loop-place.invariant
