use Rattle.mem_terms.proofs.SymValues.{as_number-stands}
use Rattle.mem_terms.proofs.values.as_number.Goals as goal

pub returns-clause-stands : goal.returns-clause-stands
returns-clause-stands c =
    as_number-stands c.args.terms.now c.either.new.terms c.args.s c.in_ok-poison.poison c.requires c.either.ensures.kept c.in_ok-poison.ensures.made
