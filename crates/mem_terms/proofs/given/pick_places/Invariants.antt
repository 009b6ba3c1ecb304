-- The bytes so far are the first ones of either list.
use Rattle.mem_terms.proofs.GivenTerms.{PickedBytes}
use Rattle.mem_terms.proofs.given.pick_places.Given as goal

abbrev pub invariant-loop-i : goal.invariant-loop-i
invariant-loop-i l = PickedBytes l.fn.terms l.terms l.c l.a l.b l.i l.picked.items
