use Rattle.inst_terms.proofs.Divisors.{least-stands}
use Rattle.inst_terms.proofs.undefined.is_least_or_poison.Goals as goal

pub returns-clause-made : goal.returns-clause-made
returns-clause-made c =
    least-stands c.args.terms.now c.is_least.new.terms c.either.new.terms c.args.dividend c.args.width.bits c.in_ok-least.least c.in_ok-id.id c.values_fit.ensures c.requires c.is_least.ensures.kept c.in_ok-least.ensures.made c.in_ok-id.ensures.made
