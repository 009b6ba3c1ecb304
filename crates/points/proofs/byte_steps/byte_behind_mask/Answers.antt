use Rattle.points.proofs.Common.{arith}
use Rattle.points.proofs.ByteOrder.{poison_more, mask_next, poison_last}
use Rattle.points.proofs.byte_steps.byte_behind_mask.Goals as goal

pub returns-in-Some : goal.returns-in-Some
returns-in-Some c =
    let next = c.in-Some.ensures in
    poison_more c.args.layout.now c.args.number c.args.mask c.in-Some.next (omega arith) c.requires.some (omega arith) next.0 (omega arith) next.1 next.2

pub returns-then-mask-lt255 : goal.returns-then-mask-lt255
returns-then-mask-lt255 c = mask_next c.args.layout.now c.args.number c.args.mask (omega arith) c.requires.some (omega arith) (omega arith) c.in_default.ensures

pub returns : goal.returns
returns c = poison_last c.args.layout.now c.args.number c.args.mask (omega arith) (omega arith) c.in_default.ensures
