-- One more bit inverted, in a circuit that stays.
use Rattle.gate_arith.proofs.Common.{◌≡◌, ◌<◌, false, length, get_or, arith, refl, ◌∙◌, GateId}
use Rattle.gate_arith.proofs.Digits.{keeps_self}
use Rattle.gate_arith.proofs.Zips.{inverse-more, inverse-writes, none_inverse, turned_in}
use Rattle.gate_arith.proofs.bitwise.inverse.Goals as goal

pub loop-i-init : goal.loop-i-init
loop-i-init c = record {
  same = refl;
  part = none_inverse c.args.circuit.now c.args.a.now c.new-digits.result.items c.new-digits.ensures.items;
}

pub loop-i-preserved : goal.loop-i-preserved
loop-i-preserved c =
    let d : GateId = record { index = 0; negated = false } in
    let lt : c.loop-i.i < length c.args.a.now = omega arith in
    let still : c.not.new.self ≡ c.args.circuit.now = c.not.ensures.same ∙ c.loop-i.invariant.same in
    record {
      same = still;
      part = inverse-more c.args.circuit.now c.args.a.now c.loop-i.digits.items c.push.new.self.items c.in_ok-digit.digit d c.loop-i.i c.loop-i.invariant.part lt
          (turned_in c.args.circuit.now c.loop-i.circuit c.not.new.self c.in_ok-digit.digit (get_or c.args.a.now c.loop-i.i d) c.loop-i.invariant.same still c.in_ok-digit.ensures.made) c.in_ok-push.ensures.items;
    }

pub returns-clause-made : goal.returns-clause-made
returns-clause-made c =
    rw c.loop-i.invariant.same (inverse-writes c.args.circuit.now c.args.a.now c.loop-i.digits.items c.loop-i.i (omega arith) c.loop-i.invariant.part)

pub returns-clause-kept : goal.returns-clause-kept
returns-clause-kept c = rw c.loop-i.invariant.same (keeps_self c.args.circuit.now)
