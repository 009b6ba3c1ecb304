use Rattle.mem_terms.proofs.Bits.{tests-and}
use Rattle.mem_terms.proofs.truths.both.Goals as goal

pub returns-clause-made : goal.returns-clause-made
returns-clause-made c = tests-and c.args.terms.now c.and.new.terms c.args.a c.args.b c.in_ok-id.id c.values_fit.ensures c.requires.a c.requires.b c.in_ok-id.ensures.made
