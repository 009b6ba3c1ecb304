use Rattle.run_trace.proofs.Terminators.{over_has_reason, end_jumped}
use Rattle.run_trace.proofs.ends.end_reason.Goals as goal

pub returns-in-Over : goal.returns-in-Over
returns-in-Over c = λ f tape m k is.
    over_has_reason f c.args.terminator.now tape m c.args.machine.now c.args.leaving.now k c.in-Over.ending c.as_slice.result.now c.args.operands.now c.over_reason.result
    is c.in-Over.is c.as_slice.ensures c.requires c.over_reason.ensures

pub returns-in-To : goal.returns-in-To
returns-in-To c = λ f tape m k is.
    end_jumped f c.args.terminator.now tape m c.args.machine.now c.args.leaving.now k c.in-To.field-0 c.jump_reason.result is c.in-To.is c.jump_reason.ensures
