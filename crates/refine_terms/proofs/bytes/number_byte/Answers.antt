use Rattle.refine_terms.proofs.ByteKinds.{number_decides}
use Rattle.refine_terms.proofs.bytes.number_byte.Goals as goal

pub returns-clause-made : goal.returns-clause-made
returns-clause-made c =
    number_decides c.args.terms.now c.is_number.new.terms c.is_number-2.new.terms c.no_part.new.terms c.both.new.terms c.both-2.new.terms c.args.b
    c.in_ok-kind.kind c.in_ok-mask.mask c.in_ok-part.part c.in_ok-rest.rest c.in_ok-id.id
    c.values_fit.ensures c.requires c.is_number.ensures.kept c.is_number-2.ensures.kept c.no_part.ensures.kept c.both.ensures.kept
    c.in_ok-kind.ensures.made c.in_ok-mask.ensures.made c.in_ok-part.ensures.made c.in_ok-rest.ensures.made c.in_ok-id.ensures.made
