-- The registers so far are those of a prefix of each list.
use Rattle.run_terms.proofs.Common.{◌≡◌, ◌≤◌, length, take, cond, Keeps, bit_at, AreSymValues, Reading, values_at}
use Rattle.run_terms.proofs.joining.pick_registers.Given as goal

abbrev pub invariant-loop-i : goal.invariant-loop-i
invariant-loop-i l =
    Keeps l.fn.terms l.terms
    × AreSymValues l.terms l.picked.items
    × (length l.picked.items ≡ l.i)
    × (l.i ≤ length l.a)
    × ((s : Reading) → values_at s l.terms l.picked.items ≡ cond (bit_at s.v l.fn.terms l.c) (take l.i (values_at s l.fn.terms l.a)) (take l.i (values_at s l.fn.terms l.b)))
