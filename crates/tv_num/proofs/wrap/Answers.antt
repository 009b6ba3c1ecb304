use Rattle.std.proofs.Common.{bit_and, ap, ◌∙◌}
use Rattle.std.proofs.lemmas.Nat.{and_mask}
use Rattle.tv_num.proofs.wrap.Goals as goal

pub returns : goal.returns
returns c = ap (bit_and c.args.x) c.mask.ensures ∙ and_mask c.args.x c.args.w.bits
