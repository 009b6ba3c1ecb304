use Rattle.term_rules.proofs.ShrinkRules.{greater_makes, less_makes}
use Rattle.term_rules.proofs.builders.slt.Goals as goal

pub returns-in-Some-clause-made : goal.returns-in-Some-clause-made
returns-in-Some-clause-made c = less_makes c.args.terms.now c.is_less.new.terms c.args.a c.args.b c.in_ok-id.id c.in-Some.pair c.values_fit.ensures
    c.in-Some.ensures.shrunk c.in-Some.ensures.fits c.in-Some.ensures.less c.in_ok-id.ensures.made

pub returns-in-Some-shrunk_further-clause-made : goal.returns-in-Some-shrunk_further-clause-made
returns-in-Some-shrunk_further-clause-made c = greater_makes c.args.terms.now c.is_greater.new.terms c.args.b c.args.a c.in_ok-id-2.id c.in-Some-shrunk_further.pair c.values_fit.ensures
    c.in-Some-shrunk_further.ensures.shrunk c.in-Some-shrunk_further.ensures.fits c.in-Some-shrunk_further.ensures.less c.requires.alike c.in_ok-id-2.ensures.made
