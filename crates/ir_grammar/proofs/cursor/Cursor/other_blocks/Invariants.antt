use Rattle.ir_grammar.proofs.Common.{true, length, read, Left, any, begins_block, block_begins, next_block, other_blocks}
use Rattle.ir_grammar.proofs.cursor.Cursor.other_blocks.Given as goal

abbrev pub invariant-loop-next : goal.invariant-loop-next
invariant-loop-next l = Left begins_block block_begins (λ s. any) (λ s a ts. read true (next_block s a) ts) l.so_far l.self (read true (other_blocks l.fn.entry) l.fn.self)

abbrev pub decreases-loop-next : goal.decreases-loop-next
decreases-loop-next l = length l.self
