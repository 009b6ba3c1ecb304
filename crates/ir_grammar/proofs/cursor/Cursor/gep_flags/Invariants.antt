use Rattle.ir_grammar.proofs.Common.{true, length, give, read, Left, any, gep_flags, is_gep_flag, next_gep_flag}
use Rattle.ir_grammar.proofs.cursor.Cursor.gep_flags.Given as goal

abbrev pub invariant-loop-more : goal.invariant-loop-more
invariant-loop-more l = Left is_gep_flag next_gep_flag (λ flags. any) (λ flags more ts. read true (give more) ts) l.flags l.self (read true gep_flags l.fn.self)

abbrev pub decreases-loop-more : goal.decreases-loop-more
decreases-loop-more l = length l.self
