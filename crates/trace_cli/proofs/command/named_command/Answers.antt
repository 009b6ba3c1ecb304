use Rattle.std.proofs.Common.{◌≡◌, ap, ap₂, ◌∙◌}
use Rattle.std.specs.Prelude.{codes, true}
use Rattle.clap.specs.Words.{Shape, app_of, new_app, with_rule}
use Rattle.clap.specs.Simple.{app_of_fields, on_top}
use Rattle.trace_cli.proofs.command.named_command.Goals as goal

pub returns-clause-app : goal.returns-clause-app
returns-clause-app c =
    let flag : Shape → Shape = λ s. record s { disable_help_flag = true } in
    let first : app_of c.disable_help_flag.result ≡ on_top flag (new_app (codes "tv_trace")) = ap app_of_fields c.disable_help_flag.ensures ∙ ap (on_top flag) c.new.ensures.app in
    c.in_ok-named.ensures.shape c.option.ensures.local
    ∙ ap₂ with_rule (c.in_ok-arg-3.ensures.shape c.function.ensures.local
    ∙ ap₂ with_rule (c.in_ok-arg-2.ensures.shape c.name-2.ensures.local
    ∙ ap₂ with_rule (c.in_ok-arg.ensures.shape c.name.ensures.local
    ∙ ap₂ with_rule first c.name.ensures.rule) c.name-2.ensures.rule) c.function.ensures.rule) c.option.ensures.rule
