use Rattle.ir_lexer.proofs.Next.{reads-next}
use Rattle.ir_lexer.proofs.lexer.Lexer.next.Goals as goal

pub returns : goal.returns
returns c = rw (← c.self.view_is) (reads-next c.self.inside.cursor c.next.result c.next.new.self c.next.ensures.reads)
