use Rattle.run_trace.proofs.Common.{◌≡◌, Insts, At, position, GoesOn}
use Rattle.run_trace.proofs.insts.trace_insts.Given as goal

abbrev pub invariant-loop-k : goal.invariant-loop-k
invariant-loop-k l = record {
  insts : l.inst-items ≡ l.block.insts;
  goes : GoesOn l.block l.at Insts 0 l.fn.tracer.machine l.fn.tracer.steps l.tape l.tracer.steps (λ jumps. At Insts (position l.at l.k jumps l.tracer.machine));
  turn : l.tracer.machine.turn ≡ l.fn.tracer.machine.turn;
  index : l.tracer.index ≡ l.fn.tracer.index;
}
