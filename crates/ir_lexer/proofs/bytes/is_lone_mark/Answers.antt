use Rattle.ir_lexer.proofs.Common.{arith}
use Rattle.ir_lexer.proofs.Classes.{lone_mark}
use Rattle.ir_lexer.proofs.bytes.is_lone_mark.Goals as goal

pub returns : goal.returns
returns c = rw c.class_of.ensures (lone_mark c.args.b (omega arith))
