use Rattle.ir_grammar.proofs.Common.{true, length, read, Left, any, follows_parameter, parameter_begins, with_part, parameter_parts}
use Rattle.ir_grammar.proofs.cursor.Cursor.parameter_parts.Given as goal

abbrev pub invariant-loop-next : goal.invariant-loop-next
invariant-loop-next l = Left follows_parameter parameter_begins (λ s. any) (λ s a ts. read true (with_part s a) ts) l.so_far l.self (read true (parameter_parts l.fn.of_type) l.fn.self)

abbrev pub decreases-loop-next : goal.decreases-loop-next
decreases-loop-next l = length l.self
