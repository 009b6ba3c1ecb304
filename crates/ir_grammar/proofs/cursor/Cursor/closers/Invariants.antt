use Rattle.ir_grammar.proofs.Common.{◌≡◌, true, read, closers}
use Rattle.ir_grammar.proofs.cursor.Cursor.closers.Given as goal

abbrev pub invariant-loop-left : goal.invariant-loop-left
invariant-loop-left l = read true (closers l.left) l.self ≡ read true (closers l.fn.count) l.fn.self

abbrev pub decreases-loop-left : goal.decreases-loop-left
decreases-loop-left l = l.left
