-- The size is that of the first block from the index on that is named.
use Rattle.access_terms.proofs.Common.{◌≡◌, ◌≤◌, length, drop, bytes_named, Keeps, IsTerm, term_at, IsNaming, Reading, memory_at}
use Rattle.access_terms.proofs.sizes.size_named.Given as goal

abbrev pub invariant-loop-i : goal.invariant-loop-i
invariant-loop-i l =
    Keeps l.fn.terms l.terms
    × (l.i ≤ length l.memory)
    × IsTerm l.terms 64 l.size
    × ((r : Reading) → IsNaming r.name → term_at r.v l.terms l.size ≡ length (bytes_named (memory_at r l.fn.terms (drop l.i l.memory)) (r.name (term_at r.v l.fn.terms l.block))))

abbrev pub decreases-loop-i : goal.decreases-loop-i
decreases-loop-i l = l.i
