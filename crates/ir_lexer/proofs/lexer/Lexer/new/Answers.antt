use Rattle.ir_lexer.proofs.Common.{ap, ◌∙◌, tokens_left}
use Rattle.ir_lexer.proofs.Next.{left-start}
use Rattle.ir_lexer.proofs.lexer.Lexer.new.Goals as goal

pub returns : goal.returns
returns c = ap tokens_left c.new.ensures ∙ left-start c.args.text.now
