use Rattle.gate_arith.proofs.Common.{◌-◌, length, arith}
use Rattle.gate_arith.proofs.Pieces.{part-writes}
use Rattle.gate_arith.proofs.parts.part.Goals as goal

pub returns : goal.returns
returns c = λ gates ina. part-writes gates c.args.a.now c.in_ok-digits.digits.items c.args.from c.args.width (length c.args.a.now - c.args.from - c.args.width) _ (omega arith) (omega arith) c.in_ok-digits.ensures.items ina
