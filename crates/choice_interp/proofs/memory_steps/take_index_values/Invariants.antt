use Rattle.choice_interp.proofs.Common.{◌≡◌, ◌++◌, drop, All, index_values}
use Rattle.memory_access.specs.Offsets.{IndexFits}
use Rattle.choice_interp.proofs.memory_steps.take_index_values.Given as goal

abbrev pub invariant-loop-n : goal.invariant-loop-n
invariant-loop-n l = record {
  rest : l.values ++ index_values l.registers l.of_type l.n (drop l.n l.indices) ≡ index_values l.registers l.of_type 0 l.indices;
  fits : All IndexFits l.values;
}
