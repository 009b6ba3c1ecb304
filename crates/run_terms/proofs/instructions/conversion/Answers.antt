use Rattle.run_terms.proofs.Common.{◌∙◌}
use Rattle.run_terms.proofs.Reading.{cast_integer}
use Rattle.run_terms.proofs.instructions.conversion.Goals as goal

pub returns-clause-stands : goal.returns-clause-stands
returns-clause-stands c = λ r names. c.in_ok-value.ensures.stands r ∙ (c.in_ok-number.ensures.stands r.v ∙ rw (c.in_ok-operand.ensures.stands r names) (cast_integer c.args.conversion c.args.from.bits c.args.to.bits _))
