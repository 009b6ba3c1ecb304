use Rattle.memory_access.proofs.Common.{◌≡◌, paste, value_bytes}
use Rattle.memory_access.proofs.accesses.write_value.Given as goal

abbrev pub invariant-loop-k : goal.invariant-loop-k
invariant-loop-k l = l.places ≡ paste l.fn.places l.from (value_bytes l.access l.value) l.k
