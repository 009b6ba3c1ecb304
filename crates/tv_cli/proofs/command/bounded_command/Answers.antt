use Rattle.tv_cli.proofs.Common.{ap₂, ◌∙◌, with_rule}
use Rattle.tv_cli.proofs.command.bounded_command.Goals as goal

pub returns-clause-app : goal.returns-clause-app
returns-clause-app c =
    c.in_ok-check.ensures.shape c.option-3.ensures.local
    ∙ ap₂ with_rule (c.in_ok-arg-4.ensures.shape c.option-2.ensures.local
    ∙ ap₂ with_rule (c.in_ok-arg-3.ensures.shape c.option.ensures.local
    ∙ ap₂ with_rule (c.in_ok-arg-2.ensures.shape c.name-2.ensures.local
    ∙ ap₂ with_rule (c.in_ok-arg.ensures.shape c.name.ensures.local
    ∙ ap₂ with_rule c.new.ensures.app c.name.ensures.rule) c.name-2.ensures.rule) c.option.ensures.rule) c.option-2.ensures.rule) c.option-3.ensures.rule
