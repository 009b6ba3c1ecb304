use Rattle.gate_arith.proofs.Common.{IfOk-then}
use Rattle.gate_arith.proofs.Adders.{carry-less}
use Rattle.gate_arith.proofs.sums.less.Goals as goal

pub returns-clause-made : goal.returns-clause-made
returns-clause-made c = IfOk-then c.not.result _ _ c.not.ensures.made (λ id made.
    carry-less c.args.circuit.now c.minus.new.circuit c.not.new.self c.args.a.now c.args.b.now c.in_ok-whole.whole.digits.items c.in_ok-whole.whole.carry id c.requires.alike c.in_ok-whole.ensures.made made)
