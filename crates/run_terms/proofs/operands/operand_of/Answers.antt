use Rattle.run_terms.proofs.Reading.{register_at}
use Rattle.run_terms.proofs.operands.operand_of.Goals as goal

pub returns-then-name-registers-clause-stands : goal.returns-then-name-registers-clause-stands
returns-then-name-registers-clause-stands c = rw c.in-Local.is (λ r naming. register_at r c.args.terms.now c.args.registers.now c.in-Local.name _ c.if-name-registers.true)
