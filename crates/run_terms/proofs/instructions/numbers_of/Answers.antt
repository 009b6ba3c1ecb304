use Rattle.run_terms.proofs.Common.{◌∙◌, ap, List, number-later, values-later, Value, operand_value, as_integer}
use Rattle.run_terms.proofs.instructions.numbers_of.Goals as goal

pub returns-clause-left : goal.returns-clause-left
returns-clause-left c = λ r names.
    number-later c.number_of.new.terms c.number_of-2.new.terms c.number_of-2.ensures.kept r.v c.in_ok-left.left c.in_ok-left.ensures.made ∙ c.in_ok-left.ensures.stands r names

pub returns-clause-right : goal.returns-clause-right
returns-clause-right c = λ r names.
    c.in_ok-right.ensures.stands r names
    ∙ ap (λ (rs : List Value). as_integer (operand_value rs c.args.operands.right)) (values-later c.args.terms.now c.number_of.new.terms c.number_of.ensures.kept r c.args.registers.now c.requires)
