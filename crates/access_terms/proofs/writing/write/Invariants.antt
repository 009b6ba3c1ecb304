-- The blocks up to the index are as they shall be, and the others are as they were.
use Rattle.access_terms.proofs.Common.{◌≡◌, ◌≤◌, true, length, map, drop, Keeps, IsTerm, bit_at, IsNaming, Reading, AreSymBlocks, memory_at, places_at, sym_frame, admits_span, block_of_span}
use Rattle.access_terms.proofs.Stored.{IsWritten}
use Rattle.access_terms.proofs.writing.write.Given as goal

abbrev pub invariant-loop-i : goal.invariant-loop-i
invariant-loop-i l =
    Keeps l.fn.terms l.terms
    × (length l.memory ≡ length l.fn.memory)
    × (l.i ≤ length l.memory)
    × (drop l.i l.memory ≡ drop l.i l.fn.memory)
    × (map sym_frame l.memory ≡ map sym_frame l.fn.memory)
    × AreSymBlocks l.terms l.memory
    × IsTerm l.terms 1 l.is_first
    × ((r : Reading) → IsNaming r.name → admits_span r l.fn.terms l.span (block_of_span r l.fn.terms l.span (memory_at r l.fn.terms l.fn.memory)) ≡ true
    → IsWritten r l.fn.terms l.terms l.span (places_at r l.fn.terms l.bytes) l.fn.memory l.memory l.i (bit_at r.v l.terms l.is_first))
