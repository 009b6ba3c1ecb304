use Rattle.inst_terms.proofs.Halves.{tests-xor}
use Rattle.inst_terms.proofs.signs.differ.Goals as goal

pub returns-clause-made : goal.returns-clause-made
returns-clause-made c = tests-xor c.args.terms.now c.xor.new.terms c.args.a c.args.b c.in_ok-id.id c.values_fit.ensures c.requires.a c.requires.b c.in_ok-id.ensures.made
