use Rattle.std.proofs.Common.{◌+◌, ◌∙◌}
use Rattle.known_values.proofs.Cuts.{cut-cut}
use Rattle.known_values.proofs.numbers.sum.Goals as goal

pub returns : goal.returns
returns c = c.cut.ensures ∙ cut-cut (c.args.a + c.args.b) c.args.width c.requires.1
