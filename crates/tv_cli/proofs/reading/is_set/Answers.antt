use Rattle.tv_cli.proofs.Common.{ap, ◌∙◌, bytes_eq, codes, false, found_of, one_text-rows}
use Rattle.std.specs.Option.{option_map_or}
use Rattle.clap.specs.Words.{one_text}
use Rattle.tv_cli.proofs.Given.{set-read}
use Rattle.tv_cli.proofs.reading.is_set.Goals as goal

pub returns : goal.returns
returns c =
    let f = found_of c.args.matches.now in
    c.unwrap_or.ensures
    ∙ set-read _ (one_text f c.args.name.now) c.get_one.result c.get_one.ensures.none c.get_one.ensures.value
    ∙ ap (λ o. option_map_or (λ text. bytes_eq text (codes "true")) o false) (one_text-rows f c.args.name.now)
