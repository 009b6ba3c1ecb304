use Rattle.refine_terms.proofs.ByteKinds.{byte_decides}
use Rattle.refine_terms.proofs.bytes.byte_code.Goals as goal

pub returns-clause-made : goal.returns-clause-made
returns-clause-made c =
    byte_decides c.args.terms.now c.number_byte.new.terms c.part_byte.new.terms c.poison_byte.new.terms c.either.new.terms c.either-2.new.terms c.args.b c.args.layout.now
    c.in_ok-number.number c.in_ok-part.part c.in_ok-poison.poison c.in_ok-rest.rest c.in_ok-id.id
    c.requires c.number_byte.ensures.kept c.part_byte.ensures.kept c.poison_byte.ensures.kept c.either.ensures.kept
    c.in_ok-number.ensures.made c.in_ok-part.ensures.made c.in_ok-poison.ensures.made c.in_ok-rest.ensures.made c.in_ok-id.ensures.made
