use Rattle.ir_lexer.proofs.Common.{arith}
use Rattle.ir_lexer.proofs.Classes.{plain_word}
use Rattle.ir_lexer.proofs.bytes.begins_plain_word.Goals as goal

pub returns : goal.returns
returns c = rw c.class_of.ensures (plain_word c.args.b (omega arith))
