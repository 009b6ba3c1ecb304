use Rattle.inst_terms.proofs.Chains.{at_most_signed-stands}
use Rattle.inst_terms.proofs.comparisons.at_most_signed.Goals as goal

pub returns-clause-made : goal.returns-clause-made
returns-clause-made c =
    at_most_signed-stands c.args.terms.now c.is_below_signed.new.terms c.negation.new.terms c.args.a c.args.b c.in_ok-above.above c.in_ok-id.id c.args.width.bits c.in_ok-above.ensures.made c.in_ok-id.ensures.made
