-- What the indices read so far, and those that are left, are what all read.
use Rattle.run_terms.proofs.Common.{◌≡◌, ◌≤◌, ◌++◌, drop, length, index_values, AreSymIndices, indices_at, Keeps, IsNaming, Reading, values_at}
use Rattle.run_terms.proofs.memory_steps.indices_of.Given as goal

abbrev pub invariant-loop-n : goal.invariant-loop-n
invariant-loop-n l = record {
  kept : Keeps l.fn.terms l.terms;
  within : l.n ≤ length l.indices;
  made : AreSymIndices l.terms l.values.items;
  stands : (r : Reading) → IsNaming r.name → indices_at r.v l.terms l.values.items ++ index_values (values_at r l.fn.terms l.registers) l.of_type l.n (drop l.n l.indices) ≡ index_values (values_at r l.fn.terms l.registers) l.of_type 0 l.indices;
}
