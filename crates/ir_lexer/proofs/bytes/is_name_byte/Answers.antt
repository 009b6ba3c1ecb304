use Rattle.ir_lexer.proofs.Common.{arith}
use Rattle.ir_lexer.proofs.Classes.{name_byte}
use Rattle.ir_lexer.proofs.bytes.is_name_byte.Goals as goal

pub returns : goal.returns
returns c = rw c.class_of.ensures (name_byte c.args.b (omega arith))
