use Rattle.run_trace.proofs.Common.{◌≡◌, ◌+◌, ◌-◌, ◌*◌, Phis, State, At, Leads, position}
use Rattle.run_trace.proofs.tracing.trace_blocks.Given as goal

abbrev pub invariant-loop-at : goal.invariant-loop-at
invariant-loop-at l = record {
  leads : (first : State) → Leads l.f l.tape first l.fn.tracer.steps (At Phis (position 0 0 l.turns l.fn.tracer.machine)) → Leads l.f l.tape first l.tracer.steps (At Phis (position l.at 0 l.jumps l.tracer.machine));
  turn : l.tracer.machine.turn + l.jumps ≡ l.turns;
  index : l.tracer.index ≡ l.fn.tracer.index;
}

abbrev pub decreases-loop-at : goal.decreases-loop-at
decreases-loop-at l = l.jumps * (l.count + 1) + (l.count - l.at)
