use Rattle.tv_cli.proofs.Common.{ap₂, ◌∙◌, with_rule}
use Rattle.tv_cli.proofs.command.check_command.Goals as goal

pub returns-clause-app : goal.returns-clause-app
returns-clause-app c =
    c.in_ok-check.ensures.shape c.flag.ensures.local
    ∙ ap₂ with_rule (c.in_ok-arg-5.ensures.shape c.option-5.ensures.local
    ∙ ap₂ with_rule (c.in_ok-arg-4.ensures.shape c.option-4.ensures.local
    ∙ ap₂ with_rule (c.in_ok-arg-3.ensures.shape c.option-3.ensures.local
    ∙ ap₂ with_rule (c.in_ok-arg-2.ensures.shape c.option-2.ensures.local
    ∙ ap₂ with_rule (c.in_ok-arg.ensures.shape c.option.ensures.local
    ∙ ap₂ with_rule c.in_ok-bounded_command.ensures.app c.option.ensures.rule) c.option-2.ensures.rule) c.option-3.ensures.rule) c.option-4.ensures.rule) c.option-5.ensures.rule) c.flag.ensures.rule
