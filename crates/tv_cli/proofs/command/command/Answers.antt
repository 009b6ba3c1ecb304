use Rattle.tv_cli.proofs.Common.{ap, ap₂, ◌∙◌, ◌≡◌, app_of, new_app, with_subcommand, app_of_fields, on_top}
use Rattle.std.specs.Prelude.{codes, true}
use Rattle.clap.specs.Words.{App, Shape}
use Rattle.tv_cli.proofs.command.command.Goals as goal

pub returns : goal.returns
returns c =
    let flag : Shape → Shape = λ s. record s { disable_help_flag = true } in
    let help : Shape → Shape = λ s. record s { disable_help_subcommand = true } in
    let required : Shape → Shape = λ s. record s { subcommand_required = true } in
    let first : app_of c.disable_help_flag.result ≡ on_top flag (new_app (codes "tv")) = ap app_of_fields c.disable_help_flag.ensures ∙ ap (on_top flag) c.new.ensures.app in
    let second : app_of c.disable_help_subcommand.result ≡ on_top help (on_top flag (new_app (codes "tv"))) = ap app_of_fields c.disable_help_subcommand.ensures ∙ ap (on_top help) first in
    let tv : app_of c.subcommand_required.result ≡ on_top required (on_top help (on_top flag (new_app (codes "tv")))) = ap app_of_fields c.subcommand_required.ensures ∙ ap (on_top required) second in
    c.in_ok-tv.ensures.shape c.in_ok-make_command.ensures.local
    ∙ ap₂ with_subcommand (c.in_ok-subcommand-2.ensures.shape c.in_ok-log_command.ensures.local
    ∙ ap₂ with_subcommand (c.in_ok-subcommand.ensures.shape c.in_ok-check_command.ensures.local ∙ ap₂ with_subcommand tv (ap (λ (a : App). a.top) c.in_ok-check_command.ensures.app)) (ap (λ (a : App). a.top) c.in_ok-log_command.ensures.app))
    (ap (λ (a : App). a.top) c.in_ok-make_command.ensures.app)
