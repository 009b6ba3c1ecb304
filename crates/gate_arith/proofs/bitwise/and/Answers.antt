use Rattle.gate_arith.proofs.Common.{bit_and, And}
use Rattle.gate_arith.proofs.Zips.{zip-and, zip-writes}
use Rattle.gate_arith.proofs.bitwise.and.Goals as goal

pub returns-clause-made : goal.returns-clause-made
returns-clause-made c = zip-writes c.args.circuit.now c.zipped.new.circuit And c.args.a.now c.args.b.now c.in_ok-digits.digits.items (λ _ x y. bit_and x y) c.requires.alike
    (λ v xs ys e. zip-and xs ys e) c.in_ok-digits.ensures.zip
