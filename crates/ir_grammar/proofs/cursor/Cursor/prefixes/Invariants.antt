use Rattle.ir_grammar.proofs.Common.{true, length, give, read, Left, any, prefixes, is_prefix, next_prefix}
use Rattle.ir_grammar.proofs.cursor.Cursor.prefixes.Given as goal

abbrev pub invariant-loop-more : goal.invariant-loop-more
invariant-loop-more l = Left is_prefix next_prefix (λ s. any) (λ s more ts. read true (give more) ts) l.no_undef l.self (read true prefixes l.fn.self)

abbrev pub decreases-loop-more : goal.decreases-loop-more
decreases-loop-more l = length l.self
