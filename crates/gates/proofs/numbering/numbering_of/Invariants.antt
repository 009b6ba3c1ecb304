-- The needed gates so far have variables.
use Rattle.gates.proofs.Common.{length, IsPartNumbering}
use Rattle.gates.proofs.numbering.numbering_of.Given as goal

abbrev pub invariant-loop-place : goal.invariant-loop-place
invariant-loop-place l = IsPartNumbering (length l.gates) l.numbering.number.items l.numbering.gate_of.items l.order l.needed.items l.place
