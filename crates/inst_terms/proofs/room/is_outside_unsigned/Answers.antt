use Rattle.inst_terms.proofs.Common.{arith}
use Rattle.inst_terms.proofs.Chains.{outside_unsigned-stands}
use Rattle.inst_terms.proofs.room.is_outside_unsigned.Goals as goal

pub returns-clause-made : goal.returns-clause-made
returns-clause-made c =
    outside_unsigned-stands c.args.terms.now c.extract.new.terms c.constant.new.terms c.equals.new.terms c.negation.new.terms c.args.a c.in_ok-high.high c.in_ok-zero.zero c.in_ok-none.none c.in_ok-id.id c.args.from c.args.to
    c.values_fit.ensures c.requires.a (omega arith) c.in_ok-high.ensures.made c.constant.ensures.kept c.in_ok-zero.ensures.made c.in_ok-none.ensures.made c.in_ok-id.ensures.made
