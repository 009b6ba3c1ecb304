use Rattle.inst_terms.proofs.Common.{arith}
use Rattle.inst_terms.proofs.Chains.{outside_signed-stands}
use Rattle.inst_terms.proofs.room.is_outside_signed.Goals as goal

pub returns-clause-made : goal.returns-clause-made
returns-clause-made c =
    outside_signed-stands c.args.terms.now c.extract.new.terms c.sext.new.terms c.equals.new.terms c.negation.new.terms c.args.a c.in_ok-low.low c.in_ok-back.back c.in_ok-same.same c.in_ok-id.id c.args.from c.args.to
    c.values_fit.ensures c.requires.a c.requires.least (omega arith) c.extract.ensures.kept c.in_ok-low.ensures.made c.sext.ensures.kept c.in_ok-back.ensures.made c.in_ok-same.ensures.made c.in_ok-id.ensures.made
