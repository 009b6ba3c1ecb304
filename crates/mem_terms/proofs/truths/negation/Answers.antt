use Rattle.mem_terms.proofs.Bits.{tests-not}
use Rattle.mem_terms.proofs.truths.negation.Goals as goal

pub returns-clause-made : goal.returns-clause-made
returns-clause-made c = tests-not c.args.terms.now c.not.new.terms c.args.a c.in_ok-id.id c.requires c.in_ok-id.ensures.made
