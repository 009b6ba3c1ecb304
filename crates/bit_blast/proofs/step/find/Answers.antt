use Rattle.std.proofs.Common.{◌∙◌}
use Rattle.bit_blast.proofs.Tables.{get-digits}
use Rattle.bit_blast.proofs.step.find.Goals as goal

pub returns : goal.returns
returns c = c.get.ensures.value ∙ get-digits c.args.table.now.entries c.args.variable
