use Rattle.run_trace.proofs.Never.{select_is, freeze_is, alloca_is}
use Rattle.run_trace.proofs.causes.cause_of.Goals as goal

pub returns-in-Select : goal.returns-in-Select
returns-in-Select c = let a = c.in-Select in select_is c.args.inst.now a.into a.condition a.if_true a.if_false c.args.machine.now a.is

pub returns-in-Freeze : goal.returns-in-Freeze
returns-in-Freeze c = let a = c.in-Freeze in freeze_is c.args.inst.now a.into a.of_type a.operand c.args.machine.now a.is

pub returns-in-Alloca : goal.returns-in-Alloca
returns-in-Alloca c = let a = c.in-Alloca in alloca_is c.args.inst.now a.into a.number a.of_type a.align c.args.machine.now a.is
