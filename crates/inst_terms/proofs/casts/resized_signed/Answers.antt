use Rattle.inst_terms.proofs.Common.{arith}
use Rattle.inst_terms.proofs.Casting.{cut-made, extended-made}
use Rattle.inst_terms.proofs.casts.resized_signed.Goals as goal

pub returns-in_ok-extended-clause-made : goal.returns-in_ok-extended-clause-made
returns-in_ok-extended-clause-made c =
    extended-made c.args.terms.now c.sext.new.terms c.args.a c.in_ok-extended.extended c.args.from.bits c.args.to.bits c.args.from.at_least_1 (omega arith) c.values_fit.ensures c.requires (rw c.bits-then-bits.ensures at c.in_ok-extended.ensures.made)

pub returns-in_ok-low-clause-made : goal.returns-in_ok-low-clause-made
returns-in_ok-low-clause-made c =
    cut-made c.args.terms.now c.resize.new.terms c.args.a c.in_ok-low.low c.args.from.bits c.args.to.bits (omega arith) c.values_fit.ensures c.requires (rw c.bits-else-bits.ensures at c.in_ok-low.ensures.made)
