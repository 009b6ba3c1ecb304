use Rattle.ir_grammar.proofs.Common.{true, length, give, read, Left, any, wraps, is_wrap, next_wrap}
use Rattle.ir_grammar.proofs.cursor.Cursor.wraps.Given as goal

abbrev pub invariant-loop-more : goal.invariant-loop-more
invariant-loop-more l = Left is_wrap (next_wrap l.ordered) (λ flags. any) (λ flags more ts. read true (give more) ts) l.flags l.self (read true (wraps l.ordered) l.fn.self)

abbrev pub decreases-loop-more : goal.decreases-loop-more
decreases-loop-more l = length l.self
