-- What is named from an index on is marked.
use Rattle.sat_ask.proofs.Common.{IsCone}
use Rattle.sat_ask.proofs.cone.cone_of.Given as goal

abbrev pub invariant-loop-place : goal.invariant-loop-place
invariant-loop-place l = IsCone l.fn.terms l.fn.goal l.place l.used.items
