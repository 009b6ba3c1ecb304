-- The operands of marked gates are marked, from an index on.
use Rattle.gates.proofs.Common.{IsCone}
use Rattle.gates.proofs.cone.cone_of.Given as goal

abbrev pub invariant-loop-place : goal.invariant-loop-place
invariant-loop-place l = IsCone l.gates l.fn.out.index l.place l.needed.items
