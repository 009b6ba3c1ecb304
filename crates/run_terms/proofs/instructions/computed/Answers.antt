use Rattle.run_terms.proofs.Common.{◌∙◌}
use Rattle.run_terms.proofs.Reading.{result_integer}
use Rattle.run_terms.proofs.instructions.computed.Goals as goal

pub returns-clause-stands : goal.returns-clause-stands
returns-clause-stands c = λ r names. c.in_ok-row.ensures.stands r.v ∙ rw (c.in_ok-left.ensures.left r names, c.in_ok-left.ensures.right r names) (result_integer c.args.op c.args.width.bits _ _)
