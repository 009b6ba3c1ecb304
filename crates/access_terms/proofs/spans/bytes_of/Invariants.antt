-- The bytes are those that the blocks from the index on admit.
use Rattle.access_terms.proofs.Common.{◌≤◌, length, drop, Keeps, term_at, IsNaming, Reading, memory_at, AreSpanBytes, Reads, span_name}
use Rattle.access_terms.proofs.spans.bytes_of.Given as goal

abbrev pub invariant-loop-i : goal.invariant-loop-i
invariant-loop-i l =
    Keeps l.fn.terms l.terms
    × (l.i ≤ length l.memory)
    × AreSpanBytes l.terms l.span l.found
    × ((r : Reading) → IsNaming r.name → Reads r l.terms (span_name r l.fn.terms l.span) (term_at r.v l.fn.terms l.span.offset) l.span.count l.span.align (memory_at r l.fn.terms (drop l.i l.memory)) l.found)

abbrev pub decreases-loop-i : goal.decreases-loop-i
decreases-loop-i l = l.i
