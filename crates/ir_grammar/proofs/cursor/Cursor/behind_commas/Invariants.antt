use Rattle.ir_grammar.proofs.Common.{true, length, read, Left, any, is_comma, line_comma, with_comma, behind_commas}
use Rattle.ir_grammar.proofs.cursor.Cursor.behind_commas.Given as goal

abbrev pub invariant-loop-self : goal.invariant-loop-self
invariant-loop-self l = Left is_comma line_comma (λ l. any) (λ s a ts. read true (with_comma s) ts) l.so_far l.self (read true (behind_commas l.fn.line) l.fn.self)

abbrev pub decreases-loop-self : goal.decreases-loop-self
decreases-loop-self l = length l.self
