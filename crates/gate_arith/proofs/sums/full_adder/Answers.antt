-- The three gates in turn.
use Rattle.gate_arith.proofs.Adders.{full-adds}
use Rattle.gate_arith.proofs.sums.full_adder.Goals as goal

pub returns-clause-sum : goal.returns-clause-sum
returns-clause-sum c = full-adds c.args.circuit.now c.xor.new.self c.xor-2.new.self c.choose.new.self
    c.args.a c.args.b c.args.c c.in_ok-half.half c.in_ok-digit.digit c.in_ok-carry.carry c.requires.a c.requires.b c.requires.c
    c.in_ok-half.ensures.kept c.in_ok-half.ensures.made c.in_ok-digit.ensures.kept c.in_ok-digit.ensures.made c.in_ok-carry.ensures.kept c.in_ok-carry.ensures.made
