use Rattle.std.proofs.Common.{◌∙◌, ap}
use Rattle.bit_blast.specs.Table.{Blasted, digits_of}
use Rattle.bit_blast.proofs.blast.Blast.digits.Goals as goal

pub returns : goal.returns
returns c = c.find.ensures ∙ ap (λ (b : Blasted). digits_of b.table c.args.variable) c.self.view_is
