use Rattle.points.proofs.Common.{arith}
use Rattle.points.proofs.ByteOrder.{part_next, pointer_next, poison_next}
use Rattle.points.proofs.byte_steps.byte_behind.Goals as goal

pub returns-then-part-lt7 : goal.returns-then-part-lt7
returns-then-part-lt7 c = part_next c.args.layout.now c.args.pointer c.args.part c.requires (omega arith)

pub returns-in-Some : goal.returns-in-Some
returns-in-Some c = pointer_next c.args.layout.now c.args.pointer c.in-Some.next c.args.part (omega arith) c.requires.1 (omega arith) c.in-Some.ensures.0 c.in-Some.ensures.1

pub returns-in-None : goal.returns-in-None
returns-in-None c = poison_next c.args.layout.now c.args.pointer c.args.part (omega arith) c.requires.1 (omega arith) c.requires.0 c.in-None.ensures
