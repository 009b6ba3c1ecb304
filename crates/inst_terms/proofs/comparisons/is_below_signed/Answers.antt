use Rattle.inst_terms.proofs.Chains.{below_signed-stands}
use Rattle.inst_terms.proofs.comparisons.is_below_signed.Goals as goal

pub returns-clause-made : goal.returns-clause-made
returns-clause-made c = below_signed-stands c.args.terms.now c.less_signed.new.terms c.args.a c.args.b c.in_ok-id.id c.args.width.bits c.values_fit.ensures c.requires.a c.requires.b c.in_ok-id.ensures.made
