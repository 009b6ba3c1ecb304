-- The blocks so far are those of the first sizes and contents.
use Rattle.mem_terms.proofs.GivenTerms.{BlocksSoFar}
use Rattle.mem_terms.proofs.given.given_blocks.Given as goal

abbrev pub invariant-loop-i : goal.invariant-loop-i
invariant-loop-i l = BlocksSoFar l.fn.terms l.terms l.fn.input.sizes l.fn.input.places l.i l.blocks.items
