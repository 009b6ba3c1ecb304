use Rattle.refine_terms.proofs.ByteKinds.{poison_decides}
use Rattle.refine_terms.proofs.bytes.poison_byte.Goals as goal

pub returns-clause-made : goal.returns-clause-made
returns-clause-made c =
    poison_decides c.args.terms.now c.is_number.new.terms c.has_poison.new.terms c.has_no_common_bit.new.terms c.no_part.new.terms c.all_four.new.terms c.args.b
    c.in_ok-kind.kind c.in_ok-some.some c.in_ok-apart.apart c.in_ok-part.part c.in_ok-id.id
    c.values_fit.ensures c.requires c.is_number.ensures.kept c.has_poison.ensures.kept c.has_no_common_bit.ensures.kept c.no_part.ensures.kept
    c.in_ok-kind.ensures.made c.in_ok-some.ensures.made c.in_ok-apart.ensures.made c.in_ok-part.ensures.made c.in_ok-id.ensures.made
