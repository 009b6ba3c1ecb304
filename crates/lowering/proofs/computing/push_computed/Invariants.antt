use Rattle.std.proofs.Common.{◌≡◌, ◌++◌}
use Rattle.std.specs.List.{AllByRecursion}
use Rattle.lowering.specs.Lowered.{computed}
use Rattle.lowering.proofs.TaskLemmas.{FitsTask, stack_insts, stack_steps}
use Rattle.lowering.proofs.computing.push_computed.Given as goal

abbrev pub invariant-loop-task : goal.invariant-loop-task
invariant-loop-task l = record {
  computes : l.insts ++ stack_insts l.plan.f.now l.stack.items ≡ l.fn.insts ++ computed l.plan.f.now 0 l.fn.of_type l.fn.operand;
  fits : AllByRecursion (FitsTask l.plan.f.now) l.stack.items;
}

abbrev pub decreases-loop-task : goal.decreases-loop-task
decreases-loop-task l = stack_steps l.plan.f.now l.stack.items
