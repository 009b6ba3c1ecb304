use Rattle.run_terms.proofs.Common.{◌∙◌, ap, cut_value}
use Rattle.run_terms.proofs.Reading.{cut_integer}
use Rattle.run_terms.proofs.operands.integer.Goals as goal

pub returns-clause-stands : goal.returns-clause-stands
returns-clause-stands c = λ r. c.in_ok-value.ensures.stands r
    ∙ (c.in_ok-low.ensures.stands r.v ∙ (ap (cut_value c.args.width.bits) (c.in_ok-number.ensures.stands r) ∙ cut_integer c.args.width.bits _))
