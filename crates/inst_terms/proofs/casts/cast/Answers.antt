use Rattle.inst_terms.proofs.Wholes.{cast-stands}
use Rattle.inst_terms.proofs.casts.cast.Goals as goal

pub returns-clause-stands : goal.returns-clause-stands
returns-clause-stands c =
    cast-stands c.args.terms.now c.narrowed.new.terms c.on_number.new.terms c.either.new.terms c.widened.new.terms c.args.cast c.args.from.bits c.args.to.bits c.args.operand c.in_ok-a.a c.in_ok-row.row c.in_ok-poison.poison c.in_ok-value.value
    c.requires c.narrowed.ensures.kept c.in_ok-a.ensures.poison c.in_ok-a.ensures.number c.on_number.ensures.kept c.in_ok-row.ensures.made c.in_ok-row.ensures.stands c.either.ensures.kept c.in_ok-poison.ensures.made c.in_ok-value.ensures.stands
