use Rattle.ir_lexer.proofs.Common.{arith}
use Rattle.ir_lexer.proofs.Classes.{number}
use Rattle.ir_lexer.proofs.bytes.begins_number.Goals as goal

pub returns-then-class-eq110 : goal.returns-then-class-eq110
returns-then-class-eq110 c = grind (arith, c.class_of-class.ensures, c.if-class-eq110.true, number c.args.b (omega arith))

pub returns-else-class-eq110 : goal.returns-else-class-eq110
returns-else-class-eq110 c = grind (arith, c.class_of-class.ensures, c.if-class-eq110.false, number c.args.b (omega arith))
