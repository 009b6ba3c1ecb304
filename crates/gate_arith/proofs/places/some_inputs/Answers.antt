-- One more input.
use Rattle.gate_arith.proofs.Common.{◌∙◌}
use Rattle.gate_arith.proofs.Known.{fresh-more, none_fresh}
use Rattle.gate_arith.proofs.places.some_inputs.Goals as goal

pub loop-i-init : goal.loop-i-init
loop-i-init c = none_fresh c.args.circuit.now c.new-digits.result.items c.new-digits.ensures.items

pub loop-i-preserved : goal.loop-i-preserved
loop-i-preserved c =
    fresh-more c.args.circuit.now c.loop-i.circuit c.input.new.self c.loop-i.i c.loop-i.digits.items c.push.new.self.items c.in_ok-digit.digit c.loop-i.invariant c.in_ok-digit.ensures.added c.in_ok-digit.ensures.kept
    c.in_ok-digit.ensures.input c.in_ok-digit.ensures.last c.in_ok-digit.ensures.made c.in_ok-digit.ensures.inputs c.in_ok-push.ensures.items
