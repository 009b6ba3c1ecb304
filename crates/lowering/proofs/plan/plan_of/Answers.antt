use Rattle.lowering.proofs.NoTrees.{no-leaves}
use Rattle.lowering.proofs.plan.plan_of.Goals as goal

pub returns-then-are_zero : goal.returns-then-are_zero
returns-then-are_zero c = no-leaves c.args.f.now c.in_ok-counts.counts.items c.deref.result.now c.deref.ensures.value c.in_ok-counts.ensures (c.are_zero.ensures.0 c.if-are_zero.true)
