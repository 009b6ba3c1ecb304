use Rattle.gate_arith.proofs.Common.{bit_xor, Xor}
use Rattle.gate_arith.proofs.Zips.{zip-xor, zip-writes}
use Rattle.gate_arith.proofs.bitwise.xor.Goals as goal

pub returns-clause-made : goal.returns-clause-made
returns-clause-made c = zip-writes c.args.circuit.now c.zipped.new.circuit Xor c.args.a.now c.args.b.now c.in_ok-digits.digits.items (λ _ x y. bit_xor x y) c.requires.alike
    (λ v xs ys e. zip-xor xs ys e) c.in_ok-digits.ensures.zip
