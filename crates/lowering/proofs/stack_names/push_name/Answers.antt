use Rattle.std.proofs.Common.{◌∙◌, arith}
use Rattle.lowering.proofs.NameLemmas.{with_next}
use Rattle.lowering.proofs.stack_names.push_name.Goals as goal

pub returns : goal.returns
returns c = c.in_ok-number.ensures.names ∙ with_next c.args.names.now c.args.name (omega (arith, c.in_ok-number.ensures.value))
