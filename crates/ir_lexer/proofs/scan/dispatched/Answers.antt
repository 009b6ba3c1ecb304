use Rattle.ir_lexer.proofs.Common.{◌∙◌, sym, ap, longer, length, None}
use Rattle.ir_lexer.proofs.Dispatch.{none-first, local-first, number-first}
use Rattle.ir_lexer.proofs.scan.dispatched.Goals as goal
use Rattle.ir_lexer.specs.declared.token.Kind.TheVariants as kind

pub returns-in_default : goal.returns-in_default
returns-in_default c = sym (none-first c.args.text.now c.in_default.len_below)

pub returns-then-first-eq37 : goal.returns-then-first-eq37
returns-then-first-eq37 c =
    c.longer.ensures ∙ ap (longer (length c.args.text.now) None kind.Local) c.after_named.ensures.value ∙ sym (local-first c.args.text.now c.if-first-eq37.true)

pub returns-then-begins_number : goal.returns-then-begins_number
returns-then-begins_number c = c.number_token.ensures ∙ sym (number-first c.args.text.now (sym c.begins_number.ensures ∙ c.if-begins_number.true))
