use Rattle.refine_terms.proofs.ByteKinds.{part_tests}
use Rattle.refine_terms.proofs.bytes.no_part.Goals as goal

pub returns-clause-made : goal.returns-clause-made
returns-clause-made c =
    part_tests c.args.terms.now c.is_number.new.terms c.is_number-2.new.terms c.is_number-3.new.terms c.both.new.terms c.both-2.new.terms c.args.b c.in_ok-block.block c.in_ok-offset.offset c.in_ok-part.part c.in_ok-rest.rest c.in_ok-id.id
    c.requires c.is_number.ensures.kept c.is_number-2.ensures.kept c.is_number-3.ensures.kept c.both.ensures.kept
    c.in_ok-block.ensures.made c.in_ok-offset.ensures.made c.in_ok-part.ensures.made c.in_ok-rest.ensures.made c.in_ok-id.ensures.made
