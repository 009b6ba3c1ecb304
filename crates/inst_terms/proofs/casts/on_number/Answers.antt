use Rattle.inst_terms.proofs.Casting.{truncated-row, zeros-row, signs-row}
use Rattle.inst_terms.proofs.casts.on_number.Goals as goal

pub returns-in_ok-low-in-Truncate-clause-stands : goal.returns-in_ok-low-in-Truncate-clause-stands
returns-in_ok-low-in-Truncate-clause-stands c = rw c.in-Truncate.is
    (truncated-row c.args.terms.now c.truncated.new.terms c.args.a c.in_ok-low-in-Truncate.low c.args.from.bits c.args.to.bits c.in-Truncate.flags c.in_ok-low-in-Truncate.ensures.poison c.in_ok-low-in-Truncate.ensures.number)

pub returns-in_ok-zeros-in-ZeroExtend-clause-stands : goal.returns-in_ok-zeros-in-ZeroExtend-clause-stands
returns-in_ok-zeros-in-ZeroExtend-clause-stands c = rw c.in-ZeroExtend.is
    (zeros-row c.args.terms.now c.zero_extended.new.terms c.args.a c.in_ok-zeros-in-ZeroExtend.zeros c.args.from.bits c.args.to.bits c.in-ZeroExtend.non_negative c.in_ok-zeros-in-ZeroExtend.ensures.poison c.in_ok-zeros-in-ZeroExtend.ensures.number)

pub returns-in_ok-signs-in-SignExtend-clause-stands : goal.returns-in_ok-signs-in-SignExtend-clause-stands
returns-in_ok-signs-in-SignExtend-clause-stands c = rw c.in-SignExtend.is
    (signs-row c.args.terms.now c.sign_extended.new.terms c.args.a c.in_ok-signs-in-SignExtend.signs c.args.from.bits c.args.to.bits c.in_ok-signs-in-SignExtend.ensures.poison c.in_ok-signs-in-SignExtend.ensures.number)
