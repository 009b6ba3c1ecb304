-- The inputs named so far have the first variables.
use Rattle.gates.proofs.Common.{AreNumbered}
use Rattle.gates.proofs.numbering.named_first.Given as goal

abbrev pub invariant-loop-a : goal.invariant-loop-a
invariant-loop-a l = AreNumbered l.count l.numbering.number.items l.numbering.gate_of.items l.order l.a-index
