use Rattle.term_rules.proofs.Common.{◌-◌, arith}
use Rattle.term_rules.proofs.MagnitudeRules.{magnitude_makes}
use Rattle.term_rules.proofs.magnitudes.magnitude.Goals as goal

pub returns-clause-made : goal.returns-clause-made
returns-clause-made c = magnitude_makes c.args.terms.now c.build.new.terms c.build-2.new.terms c.args.a c.args.opposite c.in_ok-sign.sign c.in_ok-id.id
    (c.width-top.result - 1) c.part-highest.result c.choice-form.result c.values_fit.ensures c.requires.a c.requires.opposite
    (omega (arith, c.width-top.ensures.width, c.width-top.ensures.range.0)) c.requires.alike c.part-highest.ensures c.in_ok-sign.ensures.made c.build.ensures.kept c.choice-form.ensures c.in_ok-id.ensures.made
