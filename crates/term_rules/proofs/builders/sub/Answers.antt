use Rattle.term_rules.proofs.MultipleRules.{remainder_makes}
use Rattle.term_rules.proofs.ShrinkRules.{inverse_makes}
use Rattle.term_rules.proofs.SignedRules.{signed_remainder_makes}
use Rattle.term_rules.proofs.builders.sub.Goals as goal

pub returns-in-Some-clause-made : goal.returns-in-Some-clause-made
returns-in-Some-clause-made c = inverse_makes c.args.terms.now c.widened_inverse.new.terms c.args.a c.args.b c.in-Some.inner c.in_ok-id.id c.width-width.result
    c.values_fit.ensures c.requires.alike c.in-Some.ensures c.width-width.ensures.width c.in_ok-id.ensures.made

pub returns-in-Some-divisor-clause-made : goal.returns-in-Some-divisor-clause-made
returns-in-Some-divisor-clause-made c = remainder_makes c.args.terms.now c.urem.new.terms c.args.a c.args.b c.in-Some-divisor.by c.in_ok-id-2.id
    c.values_fit.ensures c.requires.a c.in-Some-divisor.ensures c.in_ok-id-2.ensures.made

pub returns-in-Some-signed_multiple-clause-made : goal.returns-in-Some-signed_multiple-clause-made
returns-in-Some-signed_multiple-clause-made c = signed_remainder_makes c.args.terms.now c.signed_remainder.new.terms c.args.a c.args.b c.in_ok-id-3.id c.in-Some-signed_multiple.parts
    c.values_fit.ensures c.requires.a c.requires.alike c.in-Some-signed_multiple.ensures c.in_ok-id-3.ensures.made
