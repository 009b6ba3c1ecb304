-- The entries of the literals so far are marked.
use Rattle.clause_search.proofs.Common.{◌≡◌, ◌++◌, List, length, take, Lit, AreMarked, IsCounted}
use Rattle.clause_search.proofs.learning.mark_clause.Given as goal

abbrev pub invariant-loop-literal : goal.invariant-loop-literal
invariant-loop-literal l =
    (length l.marks.marked.items ≡ length l.trail)
    × IsCounted l.low l.marks
    × ((ls : List Lit) → AreMarked l.trail ls l.fn.marks.marked.items → AreMarked l.trail (ls ++ take l.literal-index l.literal-items) l.marks.marked.items)
