use Rattle.ir_lexer.proofs.Common.{◌∙◌, sym}
use Rattle.ir_lexer.proofs.Dispatch.{name-plain, name-digits, name-other, name-nil}
use Rattle.ir_lexer.proofs.scan.after_name.Goals as goal

pub returns-in_default-clause-value : goal.returns-in_default-clause-value
returns-in_default-clause-value c = sym (name-nil c.args.text.now c.in_default.len_below)

pub returns-then-begins_name-clause-value : goal.returns-then-begins_name-clause-value
returns-then-begins_name-clause-value c = c.after_plain_name.ensures.value ∙ sym (name-plain c.args.text.now (sym c.begins_name.ensures ∙ c.if-begins_name.true))

pub returns-then-is_digit-clause-value : goal.returns-then-is_digit-clause-value
returns-then-is_digit-clause-value c = c.after_digits.ensures.value ∙ sym (name-digits c.args.text.now (sym c.is_digit.ensures ∙ c.if-is_digit.true))

pub returns-else-is_digit-clause-value : goal.returns-else-is_digit-clause-value
returns-else-is_digit-clause-value c = c.after_quoted.ensures.value ∙ sym (name-other c.args.text.now (sym c.begins_name.ensures ∙ c.if-begins_name.false) (sym c.is_digit.ensures ∙ c.if-is_digit.false))
