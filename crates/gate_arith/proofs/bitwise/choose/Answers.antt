use Rattle.gate_arith.proofs.Common.{cond, gate_at, Choose}
use Rattle.gate_arith.proofs.Zips.{choose-number, zip-writes}
use Rattle.gate_arith.proofs.bitwise.choose.Goals as goal

pub returns-clause-made : goal.returns-clause-made
returns-clause-made c = zip-writes c.args.circuit.now c.zipped.new.circuit (Choose c.args.c) c.args.a.now c.args.b.now c.in_ok-digits.digits.items (λ v x y. cond (gate_at v c.args.circuit.now c.args.c) x y) c.requires.alike
    (λ v xs ys e. choose-number (gate_at v c.args.circuit.now c.args.c) xs ys e) c.in_ok-digits.ensures.zip
