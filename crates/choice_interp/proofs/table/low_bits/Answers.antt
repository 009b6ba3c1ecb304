use Rattle.choice_interp.proofs.Common.{bit_and, ap, ◌∙◌}
use Rattle.std.proofs.lemmas.Nat.{and_mask}
use Rattle.choice_interp.proofs.table.low_bits.Goals as goal

pub returns : goal.returns
returns c = ap (bit_and c.args.n) c.mask.ensures ∙ and_mask c.args.n c.args.width.bits
