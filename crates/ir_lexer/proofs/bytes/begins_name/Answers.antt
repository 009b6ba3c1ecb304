use Rattle.ir_lexer.proofs.Common.{arith}
use Rattle.std.proofs.lemmas.Bool.Decides.{nat_tests}
use Rattle.ir_lexer.proofs.Classes.{name_start}
use Rattle.ir_lexer.proofs.bytes.begins_name.Goals as goal

pub returns-then-class-ge97 : goal.returns-then-class-ge97
returns-then-class-ge97 c = let is = name_start c.args.b (omega arith) in grind (arith, nat_tests, c.class_of-class.ensures, c.if-class-ge97.true, is)

pub returns-else-class-ge97 : goal.returns-else-class-ge97
returns-else-class-ge97 c = let is = name_start c.args.b (omega arith) in grind (arith, nat_tests, c.class_of-class.ensures, c.if-class-ge97.false, is)
