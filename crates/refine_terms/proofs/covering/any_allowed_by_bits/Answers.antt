use Rattle.refine_terms.proofs.ValueTests.{by_bits_tests, picked_tests}
use Rattle.refine_terms.proofs.covering.any_allowed_by_bits.Goals as goal

pub returns-clause-made : goal.returns-clause-made
returns-clause-made c =
    by_bits_tests c.args.terms.now c.bits_allowed.new.terms c.is_number.new.terms c.pick.new.terms c.args.source c.args.target c.in_ok-bits.bits c.in_ok-all_poison.all_poison c.in_ok-id.id
    c.requires.source c.requires.target c.bits_allowed.ensures.kept c.is_number.ensures.kept c.in_ok-bits.ensures.made c.in_ok-all_poison.ensures.made
    (picked_tests c.is_number.new.terms c.pick.new.terms c.args.target.is_part c.in_ok-all_poison.all_poison c.in_ok-bits.bits c.in_ok-id.id _ c.in_ok-id.ensures.made c.in_ok-all_poison.ensures.made.wide)
