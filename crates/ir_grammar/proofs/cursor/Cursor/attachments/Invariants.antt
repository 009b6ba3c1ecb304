use Rattle.ir_grammar.proofs.Common.{true, length, read, Left, any, is_comma, comma_begins, attachment, attachments}
use Rattle.ir_grammar.proofs.cursor.Cursor.attachments.Given as goal

abbrev pub invariant-loop-is_more : goal.invariant-loop-is_more
invariant-loop-is_more l = Left is_comma comma_begins (λ s. any) (λ s a ts. read true attachment ts) tt l.self (read true attachments l.fn.self)

abbrev pub decreases-loop-is_more : goal.decreases-loop-is_more
decreases-loop-is_more l = length l.self
