-- The bytes so far are the first of the contents.
use Rattle.mem_terms.proofs.GivenTerms.{BytesSoFar}
use Rattle.mem_terms.proofs.given.given_places.Given as goal

abbrev pub invariant-loop-b : goal.invariant-loop-b
invariant-loop-b l = BytesSoFar l.fn.terms l.terms l.places l.b-index l.bytes.items
