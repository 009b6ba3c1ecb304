use Rattle.mem_terms.proofs.Bits.{tests-or}
use Rattle.mem_terms.proofs.truths.either.Goals as goal

pub returns-clause-made : goal.returns-clause-made
returns-clause-made c = tests-or c.args.terms.now c.or.new.terms c.args.a c.args.b c.in_ok-id.id c.values_fit.ensures c.requires.a c.requires.b c.in_ok-id.ensures.made
