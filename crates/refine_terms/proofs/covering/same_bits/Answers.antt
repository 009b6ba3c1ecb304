use Rattle.refine_terms.proofs.Common.{keeps_four}
use Rattle.refine_terms.proofs.ValueTests.{numbers_tests}
use Rattle.refine_terms.proofs.covering.same_bits.Goals as goal

pub returns-clause-made : goal.returns-clause-made
returns-clause-made c =
    numbers_tests c.args.terms.now c.bits_outside.new.terms c.bits_outside-2.new.terms c.bits_outside-3.new.terms c.equals.new.terms c.args.source c.args.target c.requires.source c.requires.target
    c.bits_outside.ensures.kept c.bits_outside-2.ensures.kept c.bits_outside-3.ensures.kept c.in_ok-from.from c.in_ok-to.to c.in_ok-seen.seen c.in_ok-id.id
    c.in_ok-from.ensures.made c.in_ok-to.ensures.made c.in_ok-seen.ensures.made c.in_ok-id.ensures.made

pub returns-in_err-id-clause-kept : goal.returns-in_err-id-clause-kept
returns-in_err-id-clause-kept c =
    keeps_four c.args.terms.now c.bits_outside.new.terms c.bits_outside-2.new.terms c.bits_outside-3.new.terms c.equals.new.terms c.bits_outside.ensures.kept c.bits_outside-2.ensures.kept c.bits_outside-3.ensures.kept c.equals.ensures.kept

pub returns-clause-kept : goal.returns-clause-kept
returns-clause-kept c =
    keeps_four c.args.terms.now c.bits_outside.new.terms c.bits_outside-2.new.terms c.bits_outside-3.new.terms c.equals.new.terms c.bits_outside.ensures.kept c.bits_outside-2.ensures.kept c.bits_outside-3.ensures.kept c.equals.ensures.kept
