-- What is known is what the blocks from the index on admit.
use Rattle.access_terms.proofs.Common.{◌≡◌, ◌≤◌, length, drop, Keeps, IsTerm, bit_at, IsNaming, Reading, memory_at, admits_span, block_of_span}
use Rattle.access_terms.proofs.spans.admits.Given as goal

abbrev pub invariant-loop-i : goal.invariant-loop-i
invariant-loop-i l =
    Keeps l.fn.terms l.terms
    × (l.i ≤ length l.memory)
    × IsTerm l.terms 1 l.is_admitted
    × ((r : Reading) → IsNaming r.name → bit_at r.v l.terms l.is_admitted ≡ admits_span r l.fn.terms l.span (block_of_span r l.fn.terms l.span (memory_at r l.fn.terms (drop l.i l.memory))))

abbrev pub decreases-loop-i : goal.decreases-loop-i
decreases-loop-i l = l.i
