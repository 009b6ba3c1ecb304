use Rattle.run_trace.proofs.Common.{◌≡◌, ℕ, List, Phis, At, position, GoesOn}
use Rattle.run_trace.proofs.phis.trace_phis.Given as goal

abbrev pub invariant-loop-k : goal.invariant-loop-k
invariant-loop-k l = record {
  phis : l.phi-items ≡ l.block.phis;
  goes : (tape : List ℕ) → GoesOn l.block l.at Phis 0 l.machine l.fn.steps tape l.steps (λ jumps. At Phis (position l.at l.k jumps l.machine));
}
