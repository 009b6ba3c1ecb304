use Rattle.inst_terms.proofs.Chains.{at_most-stands}
use Rattle.inst_terms.proofs.comparisons.at_most.Goals as goal

pub returns-clause-made : goal.returns-clause-made
returns-clause-made c = at_most-stands c.args.terms.now c.less.new.terms c.negation.new.terms c.args.a c.args.b c.in_ok-above.above c.in_ok-id.id c.in_ok-above.ensures.made c.in_ok-id.ensures.made
