use Rattle.gate_arith.proofs.Common.{false, GateId, IfOk-then}
use Rattle.gate_arith.proofs.Testing.{signed-tests}
use Rattle.gate_arith.proofs.comparisons.less_signed.Goals as goal

pub returns-clause-made : goal.returns-clause-made
returns-clause-made c =
    let d : GateId = record { index = 0; negated = false } in
    IfOk-then c.choose-3.result _ _ c.choose-3.ensures.made (λ id made.
    signed-tests c.args.circuit.now c.less.new.circuit c.constant.new.self c.constant-2.new.self c.choose.new.self c.choose-2.new.self c.choose-3.new.self
    c.args.a.now c.args.b.now c.in_ok-below.below c.in_ok-one.one c.in_ok-zero.zero c.in_ok-negative.negative c.in_ok-positive.positive id d c.requires.a c.requires.b c.requires.signed c.requires.alike
    c.in_ok-below.ensures.kept c.in_ok-below.ensures.made c.in_ok-one.ensures.kept c.in_ok-one.ensures.made c.in_ok-zero.ensures.kept c.in_ok-zero.ensures.made
    c.in_ok-negative.ensures.kept c.in_ok-negative.ensures.made c.in_ok-positive.ensures.kept c.in_ok-positive.ensures.made made)
