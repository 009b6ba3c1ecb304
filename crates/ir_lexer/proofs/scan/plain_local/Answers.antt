use Rattle.ir_lexer.proofs.Common.{ℕ, ◌∙◌, ◌+◌, sym, ap, Some}
use Rattle.ir_lexer.proofs.Lines.{local-plain, local-line}
use Rattle.ir_lexer.specs.declared.token.Kind.TheVariants as kind
use Rattle.ir_lexer.proofs.scan.plain_local.Goals as goal

pub returns-in-len1-up-clause-token : goal.returns-in-len1-up-clause-token
returns-in-len1-up-clause-token c =
    local-plain c.args.rest.now (sym c.begins_name.ensures ∙ c.if-begins_name.true) ∙ ap (λ (n : ℕ). Some (kind.Local, 1 + n)) (sym c.name_run.ensures.value)

pub returns-in-len1-up-clause-line : goal.returns-in-len1-up-clause-line
returns-in-len1-up-clause-line c = local-line c.args.rest.now c.name_run.result c.name_run.ensures.value
