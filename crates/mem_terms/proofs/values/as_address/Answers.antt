use Rattle.mem_terms.proofs.SymValues.{as_address-stands}
use Rattle.mem_terms.proofs.values.as_address.Goals as goal

pub returns-clause-stands : goal.returns-clause-stands
returns-clause-stands c =
    as_address-stands c.args.terms.now c.negation.new.terms c.either.new.terms c.args.s c.in_ok-is_number.is_number c.in_ok-poison.poison c.requires
    c.negation.ensures.kept c.in_ok-is_number.ensures.made c.either.ensures.kept c.in_ok-poison.ensures.made
