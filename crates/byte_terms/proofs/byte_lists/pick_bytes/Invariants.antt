-- The bytes so far are those of a prefix of each list.
use Rattle.byte_terms.proofs.Common.{◌≡◌, ◌≤◌, length, take, cond, Keeps, bit_at, Reading, AreSymBytes, places_at}
use Rattle.byte_terms.proofs.byte_lists.pick_bytes.Given as goal

abbrev pub invariant-loop-i : goal.invariant-loop-i
invariant-loop-i l =
    Keeps l.fn.terms l.terms
    × AreSymBytes l.terms l.picked.items
    × (length l.picked.items ≡ l.i)
    × (l.i ≤ length l.a)
    × ((r : Reading) → places_at r l.terms l.picked.items ≡ cond (bit_at r.v l.fn.terms l.c) (take l.i (places_at r l.fn.terms l.a)) (take l.i (places_at r l.fn.terms l.b)))
