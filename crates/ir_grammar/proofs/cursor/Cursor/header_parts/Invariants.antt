use Rattle.ir_grammar.proofs.Common.{true, length, read, Left, any, follows_header, header_begins, with_header, header_parts}
use Rattle.ir_grammar.proofs.cursor.Cursor.header_parts.Given as goal

abbrev pub invariant-loop-next : goal.invariant-loop-next
invariant-loop-next l = Left follows_header header_begins (λ s. any) (λ s a ts. read true (with_header s a) ts) l.so_far l.self (read true header_parts l.fn.self)

abbrev pub decreases-loop-next : goal.decreases-loop-next
decreases-loop-next l = length l.self
