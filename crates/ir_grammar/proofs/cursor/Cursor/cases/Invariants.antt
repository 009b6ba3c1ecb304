use Rattle.ir_grammar.proofs.Common.{true, length, read, Left, is_type, case_begins, case_within, with_case, cases}
use Rattle.ir_grammar.proofs.cursor.Cursor.cases.Given as goal

abbrev pub invariant-loop-next : goal.invariant-loop-next
invariant-loop-next l = Left is_type case_begins case_within (λ s a ts. read true (with_case s a) ts) l.so_far l.self (read true cases l.fn.self)

abbrev pub decreases-loop-next : goal.decreases-loop-next
decreases-loop-next l = length l.self
