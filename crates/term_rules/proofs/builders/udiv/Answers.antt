use Rattle.term_rules.proofs.ShrinkRules.{quotient_makes}
use Rattle.term_rules.proofs.builders.udiv.Goals as goal

pub returns-in-Some-clause-made : goal.returns-in-Some-clause-made
returns-in-Some-clause-made c = quotient_makes c.args.terms.now c.widened_quotient.new.terms c.args.a c.args.b c.in_ok-id.id c.in-Some.pair c.width-width.result
    c.in-Some.ensures.shrunk c.in-Some.ensures.divides c.width-width.ensures.width c.in_ok-id.ensures.made
