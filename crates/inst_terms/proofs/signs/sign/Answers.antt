use Rattle.inst_terms.proofs.Halves.{tests-sign}
use Rattle.inst_terms.proofs.signs.sign.Goals as goal

pub returns-clause-made : goal.returns-clause-made
returns-clause-made c = tests-sign c.args.terms.now c.extract.new.terms c.args.a c.in_ok-id.id c.args.width.bits c.args.width.at_least_1 c.values_fit.ensures c.requires (rw c.bits.ensures at c.in_ok-id.ensures.made)
