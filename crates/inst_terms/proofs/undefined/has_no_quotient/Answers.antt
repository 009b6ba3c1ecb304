use Rattle.inst_terms.proofs.Divisors.{no_quotient-stands}
use Rattle.inst_terms.proofs.undefined.has_no_quotient.Goals as goal

pub returns-clause-made : goal.returns-clause-made
returns-clause-made c =
    no_quotient-stands c.args.terms.now c.has_no_room.new.terms c.is_zero_or_poison.new.terms c.either.new.terms c.args.left c.args.right c.args.width.bits c.in_ok-no_room.no_room c.in_ok-zero.zero c.in_ok-id.id
    c.values_fit.ensures c.requires.left c.requires.right c.has_no_room.ensures.kept c.is_zero_or_poison.ensures.kept c.in_ok-no_room.ensures.made c.in_ok-zero.ensures.made c.in_ok-id.ensures.made
