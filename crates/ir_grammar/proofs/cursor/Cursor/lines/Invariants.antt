use Rattle.ir_grammar.proofs.Common.{true, length, read, Left, starts_line, line_begins, line_within, next_line, lines}
use Rattle.ir_grammar.proofs.cursor.Cursor.lines.Given as goal

abbrev pub invariant-loop-so_far : goal.invariant-loop-so_far
invariant-loop-so_far l = Left starts_line line_begins line_within (λ s a ts. read true (next_line s a) ts) l.so_far l.self (read true (lines l.fn.is_new l.fn.room) l.fn.self)

abbrev pub decreases-loop-so_far : goal.decreases-loop-so_far
decreases-loop-so_far l = length l.self
