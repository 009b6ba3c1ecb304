use Rattle.inst_terms.proofs.Divisors.{zero-stands}
use Rattle.inst_terms.proofs.undefined.is_zero_or_poison.Goals as goal

pub returns-clause-made : goal.returns-clause-made
returns-clause-made c =
    zero-stands c.args.terms.now c.is_zero.new.terms c.either.new.terms c.args.divisor c.args.width.bits c.in_ok-zero.zero c.in_ok-id.id c.values_fit.ensures c.requires c.is_zero.ensures.kept c.in_ok-zero.ensures.made c.in_ok-id.ensures.made
