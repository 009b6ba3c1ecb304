use Rattle.inst_terms.proofs.Chains.{truth-stands}
use Rattle.inst_terms.proofs.comparisons.truth_value.Goals as goal

pub returns-clause-stands : goal.returns-clause-stands
returns-clause-stands c = truth-stands c.args.terms.now c.zext.new.terms c.args.poison c.args.test c.in_ok-number.number c.values_fit.ensures c.requires.poison c.requires.test c.zext.ensures.kept c.in_ok-number.ensures.made
