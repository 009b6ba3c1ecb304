use Rattle.points.proofs.Common.{◌+◌, arith}
use Rattle.points.proofs.ByteOrder.{none_more}
use Rattle.points.proofs.byte_steps.number_apart.Goals as goal

pub loop-n-init : goal.loop-n-init
loop-n-init c = λ n more less apart. omega (arith, more, less)

pub returns-then-n-mask-eq0 : goal.returns-then-n-mask-eq0
returns-then-n-mask-eq0 c = (omega arith, c.if-n-mask-eq0.true, c.loop-n.invariant)

pub loop-n-preserved : goal.loop-n-preserved
loop-n-preserved c = none_more c.args.number c.args.mask (c.loop-n.n + 1) c.loop-n.invariant c.if-n-mask-eq0.false

pub returns : goal.returns
returns c = λ n more less apart. c.loop-n.invariant n more (omega (arith, less)) apart
