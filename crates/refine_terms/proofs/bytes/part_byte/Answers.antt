use Rattle.refine_terms.proofs.ByteKinds.{pointer_decides}
use Rattle.refine_terms.proofs.bytes.part_byte.Goals as goal

pub returns-clause-made : goal.returns-clause-made
returns-clause-made c =
    pointer_decides c.args.terms.now c.is_number.new.terms c.is_number-2.new.terms c.is_number-3.new.terms c.at_most.new.terms c.all_four.new.terms c.args.b c.args.layout.now
    c.in_ok-kind.kind c.in_ok-mask.mask c.in_ok-number.number c.in_ok-block.block c.in_ok-id.id
    c.values_fit.ensures c.requires c.is_number.ensures.kept c.is_number-2.ensures.kept c.is_number-3.ensures.kept c.at_most.ensures.kept
    c.in_ok-kind.ensures.made c.in_ok-mask.ensures.made c.in_ok-number.ensures.made c.in_ok-block.ensures.made c.in_ok-id.ensures.made
