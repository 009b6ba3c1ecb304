use Rattle.refine_terms.proofs.Common.{ap, ◌∙◌, width_of, keeps_four}
use Rattle.refine_terms.proofs.ValueTests.{byte_tests, picked_tests}
use Rattle.refine_terms.proofs.covering.other_byte_allowed.Goals as goal

pub returns-clause-made : goal.returns-clause-made
returns-clause-made c =
    byte_tests c.args.given c.args.terms.now c.same_part.new.terms c.both.new.terms c.any_allowed_by_bits.new.terms c.pick.new.terms c.args.source c.args.target c.in_ok-same.same c.in_ok-part.part c.in_ok-bits.bits c.in_ok-id.id
    c.requires.source c.requires.target c.same_part.ensures.kept c.both.ensures.kept c.any_allowed_by_bits.ensures.kept c.in_ok-same.ensures.made c.in_ok-part.ensures.made c.in_ok-bits.ensures.made
    (picked_tests c.any_allowed_by_bits.new.terms c.pick.new.terms c.args.source.is_part c.in_ok-part.part c.in_ok-bits.bits c.in_ok-id.id _ c.in_ok-id.ensures.made
    (ap width_of (c.any_allowed_by_bits.ensures.kept.kept c.in_ok-part.part c.in_ok-part.ensures.made.within) ∙ c.in_ok-part.ensures.made.wide))

pub returns-in_err-id-clause-kept : goal.returns-in_err-id-clause-kept
returns-in_err-id-clause-kept c =
    keeps_four c.args.terms.now c.same_part.new.terms c.both.new.terms c.any_allowed_by_bits.new.terms c.pick.new.terms c.same_part.ensures.kept c.both.ensures.kept c.any_allowed_by_bits.ensures.kept c.pick.ensures.kept

pub returns-clause-kept : goal.returns-clause-kept
returns-clause-kept c =
    keeps_four c.args.terms.now c.same_part.new.terms c.both.new.terms c.any_allowed_by_bits.new.terms c.pick.new.terms c.same_part.ensures.kept c.both.ensures.kept c.any_allowed_by_bits.ensures.kept c.pick.ensures.kept
