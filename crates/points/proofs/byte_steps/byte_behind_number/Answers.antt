use Rattle.points.proofs.Common.{arith}
use Rattle.points.proofs.ByteOrder.{number_next, part_first}
use Rattle.points.proofs.byte_steps.byte_behind_number.Goals as goal

pub returns-then-number-lt255 : goal.returns-then-number-lt255
returns-then-number-lt255 c = number_next c.args.layout.now c.args.number (omega arith)

pub returns : goal.returns
returns c = part_first c.args.layout.now c.args.number (omega arith) (omega arith)
