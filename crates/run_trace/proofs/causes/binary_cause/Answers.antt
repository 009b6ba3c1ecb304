use Rattle.run_trace.proofs.Common.{List, sym, ap, ◌∙◌, Value, operand_value}
use Rattle.run_trace.proofs.Binaries.{division_found, numbers_found}
use Rattle.run_trace.proofs.causes.binary_cause.Goals as goal

pub returns-in-Some : goal.returns-in-Some
returns-in-Some c = λ into tape needs.
    division_found into c.args.op c.args.width c.args.left c.args.right tape c.args.machine.now c.in-Some.reason c.value_of-left.result c.value_of-right.result
    (c.value_of-left.ensures ∙ ap (λ (rs : List Value). operand_value rs c.args.left) c.as_slice.ensures)
    (c.value_of-right.ensures ∙ ap (λ (rs : List Value). operand_value rs c.args.right) c.as_slice-2.ensures)
    c.in-Some.ensures

pub returns-in-None-2 : goal.returns-in-None-2
returns-in-None-2 c = λ into tape needs.
    numbers_found into c.args.op c.args.width c.args.left c.args.right tape c.args.machine.now c.value_of-left.result c.value_of-right.result c.numbers_cause.result
    (c.value_of-left.ensures ∙ ap (λ (rs : List Value). operand_value rs c.args.left) c.as_slice.ensures)
    (c.value_of-right.ensures ∙ ap (λ (rs : List Value). operand_value rs c.args.right) c.as_slice-2.ensures)
    c.in-None.ensures (sym c.requires ∙ c.if-is_literal.false) c.numbers_cause.ensures needs
