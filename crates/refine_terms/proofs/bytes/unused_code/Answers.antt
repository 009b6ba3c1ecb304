use Rattle.refine_terms.proofs.ByteKinds.{unused_decides}
use Rattle.refine_terms.proofs.bytes.unused_code.Goals as goal

pub returns-clause-made : goal.returns-clause-made
returns-clause-made c =
    unused_decides c.args.terms.now c.is_number.new.terms c.is_number-2.new.terms c.is_number-3.new.terms c.no_part.new.terms c.all_four.new.terms c.args.b
    c.in_ok-kind.kind c.in_ok-mask.mask c.in_ok-number.number c.in_ok-part.part c.in_ok-id.id
    c.requires c.is_number.ensures.kept c.is_number-2.ensures.kept c.is_number-3.ensures.kept c.no_part.ensures.kept
    c.in_ok-kind.ensures.made c.in_ok-mask.ensures.made c.in_ok-number.ensures.made c.in_ok-part.ensures.made c.in_ok-id.ensures.made
