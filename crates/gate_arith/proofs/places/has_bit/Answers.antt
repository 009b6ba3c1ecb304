use Rattle.gate_arith.proofs.Known.{digit-one}
use Rattle.gate_arith.proofs.places.has_bit.Goals as goal

pub returns : goal.returns
returns c = digit-one c.args.value c.args.place
