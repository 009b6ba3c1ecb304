use Rattle.gate_arith.proofs.Common.{◌-◌, false, get_or, length, arith, refl, GateId}
use Rattle.gate_arith.proofs.Pieces.{sign-extended-writes}
use Rattle.gate_arith.proofs.parts.sign_extended.Goals as goal

pub returns : goal.returns
returns c = λ gates ina.
    let d : GateId = record { index = 0; negated = false } in
    sign-extended-writes gates c.args.a.now c.in_ok-signs.signs.items c.in_ok-digits.digits.items (get_or c.args.a.now 0 d) d c.args.width (c.args.width - length c.args.a.now)
    ina c.requires.signed refl c.in_ok-signs.ensures (omega (arith, c.requires.wider)) (rw c.deref.ensures.value at c.in_ok-digits.ensures)
