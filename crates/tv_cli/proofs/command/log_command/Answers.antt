use Rattle.tv_cli.proofs.Common.{ap₂, ◌∙◌, with_rule}
use Rattle.tv_cli.proofs.command.log_command.Goals as goal

pub returns-clause-app : goal.returns-clause-app
returns-clause-app c = c.in_ok-log.ensures.shape c.name.ensures.local ∙ ap₂ with_rule c.new.ensures.app c.name.ensures.rule
