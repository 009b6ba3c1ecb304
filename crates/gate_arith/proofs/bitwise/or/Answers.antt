use Rattle.gate_arith.proofs.Common.{Or}
use Rattle.std.specs.Prelude.{bit_or}
use Rattle.gate_arith.proofs.Zips.{zip-or, zip-writes}
use Rattle.gate_arith.proofs.bitwise.or.Goals as goal

pub returns-clause-made : goal.returns-clause-made
returns-clause-made c = zip-writes c.args.circuit.now c.zipped.new.circuit Or c.args.a.now c.args.b.now c.in_ok-digits.digits.items (λ _ x y. bit_or x y) c.requires.alike
    (λ v xs ys e. zip-or xs ys e) c.in_ok-digits.ensures.zip
