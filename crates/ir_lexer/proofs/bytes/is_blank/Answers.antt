use Rattle.ir_lexer.proofs.Common.{arith}
use Rattle.ir_lexer.proofs.Classes.{blank}
use Rattle.ir_lexer.proofs.bytes.is_blank.Goals as goal

pub returns : goal.returns
returns c = rw c.class_of.ensures (blank c.args.b (omega arith))
