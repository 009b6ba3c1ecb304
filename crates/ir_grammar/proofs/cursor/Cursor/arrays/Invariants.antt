use Rattle.ir_grammar.proofs.Common.{true, length, read, Left, is_square, array_begins, array_within, with_length, arrays}
use Rattle.ir_grammar.proofs.cursor.Cursor.arrays.Given as goal

abbrev pub invariant-loop-next : goal.invariant-loop-next
invariant-loop-next l = Left is_square array_begins array_within (λ s opening ts. read true (with_length s) ts) l.so_far l.self (read true (arrays l.fn.outer) l.fn.self)

abbrev pub decreases-loop-next : goal.decreases-loop-next
decreases-loop-next l = length l.self
