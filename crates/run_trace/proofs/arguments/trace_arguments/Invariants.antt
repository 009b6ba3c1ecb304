use Rattle.run_trace.proofs.Common.{◌≡◌, ℕ, List, drop, Function, Machine, Call, State, At, Leads, position}
use Rattle.run_trace.proofs.arguments.trace_arguments.Given as goal

abbrev pub invariant-loop-k : goal.invariant-loop-k
invariant-loop-k l = (f : Function) (tape : List ℕ) (first : State) (jumps : ℕ) (m : Machine) → f.parameters ≡ l.parameters → m.turn ≡ l.turn
    → Leads f tape first l.fn.steps (At (Call l.args) (position 0 0 jumps m))
    → Leads f tape first l.steps (At (Call (drop l.k l.args)) (position 0 l.k jumps m))
