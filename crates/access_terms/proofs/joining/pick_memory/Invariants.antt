-- What is picked is the one or the other, as far as they are joined.
use Rattle.access_terms.proofs.Common.{ℕ, ◌+◌, ◌-◌, length, Keeps, Reading, AreSymBlocks, AreAbove, IsJoined, IsUpTo}
use Rattle.access_terms.proofs.joining.pick_memory.Given as goal

abbrev pub invariant-loop-alloc : goal.invariant-loop-alloc
invariant-loop-alloc l =
    Keeps l.fn.terms l.terms
    × IsUpTo l.a l.b l.joined
    × AreSymBlocks l.terms l.picked
    × ((most : ℕ) → AreAbove most l.a → AreAbove most l.b → AreAbove most l.picked)
    × ((r : Reading) → IsJoined r l.fn.terms l.terms l.c l.a l.b l.joined l.picked)

abbrev pub decreases-loop-alloc : goal.decreases-loop-alloc
decreases-loop-alloc l = length l.a + length l.b - (l.joined.first + l.joined.second)
