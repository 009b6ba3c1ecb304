use Rattle.run_terms.proofs.Common.{◌∙◌}
use Rattle.run_terms.proofs.Reading.{compared_integer}
use Rattle.run_terms.proofs.instructions.comparison.Goals as goal

pub returns-clause-stands : goal.returns-clause-stands
returns-clause-stands c = λ r names.
    c.in_ok-value.ensures.stands r ∙ (c.in_ok-number.ensures.stands r.v ∙ rw (c.in_ok-left.ensures.left r names, c.in_ok-left.ensures.right r names) (compared_integer c.args.predicate c.args.same_sign c.args.width.bits _ _))
