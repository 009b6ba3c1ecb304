use Rattle.refine_terms.proofs.Common.{keeps_four}
use Rattle.refine_terms.proofs.ValueTests.{bits_tests}
use Rattle.refine_terms.proofs.covering.bits_allowed.Goals as goal

pub returns-clause-made : goal.returns-clause-made
returns-clause-made c =
    bits_tests c.args.terms.now c.same_bits.new.terms c.bits_outside.new.terms c.is_number.new.terms c.both.new.terms c.args.source c.args.target c.requires.source c.requires.target
    c.same_bits.ensures.kept c.bits_outside.ensures.kept c.is_number.ensures.kept c.in_ok-same.same c.in_ok-more.more c.in_ok-within.within c.in_ok-id.id
    c.in_ok-same.ensures.made c.in_ok-more.ensures.made c.in_ok-within.ensures.made c.in_ok-id.ensures.made

pub returns-in_err-id-clause-kept : goal.returns-in_err-id-clause-kept
returns-in_err-id-clause-kept c =
    keeps_four c.args.terms.now c.same_bits.new.terms c.bits_outside.new.terms c.is_number.new.terms c.both.new.terms c.same_bits.ensures.kept c.bits_outside.ensures.kept c.is_number.ensures.kept c.both.ensures.kept

pub returns-clause-kept : goal.returns-clause-kept
returns-clause-kept c =
    keeps_four c.args.terms.now c.same_bits.new.terms c.bits_outside.new.terms c.is_number.new.terms c.both.new.terms c.same_bits.ensures.kept c.bits_outside.ensures.kept c.is_number.ensures.kept c.both.ensures.kept
