use Rattle.inst_terms.proofs.Chains.{widened-stands}
use Rattle.inst_terms.proofs.narrow.widened.Goals as goal

pub returns-clause-stands : goal.returns-clause-stands
returns-clause-stands c = widened-stands c.args.terms.now c.zext.new.terms c.args.value c.in_ok-number.number c.args.width.bits c.requires c.zext.ensures.kept c.in_ok-number.ensures.made
