use Rattle.std.proofs.Common.{refl, arith}
use Rattle.undef_uses.proofs.CountLemmas.{begun-waits, begun-stays, leaves_are}
use Rattle.undef_uses.proofs.counting.first_waiting.Goals as goal
use Rattle.undef_uses.proofs.counting.first_waiting.Goals.{then-leaves_in-gt0+in_ok-push, else-leaves_in-gt0}

pub loop-name-preserved : goal.loop-name-preserved
loop-name-preserved c = elim c.if-leaves_in-gt0.branch [
  | then-leaves_in-gt0+in_ok-push w ↦ rw w.waiting-is (begun-waits c.args.table.now c.args.counts.now c.loop-name.name c.loop-name.waiting.items w.push.new.self.items c.loop-name-test.true w.in_ok-push.ensures.items c.loop-name.invariant)
  | else-leaves_in-gt0 w ↦
      let few = leaves_are c.args.table.now c.args.counts.now c.args.counts.now c.loop-name.name c.leaves_in.result _ refl c.loop-name-test.true c.leaves_in.ensures.leaves in
      rw w.waiting-is (begun-stays c.args.table.now c.args.counts.now c.loop-name.name c.loop-name.waiting.items (omega (arith, few, w.if-leaves_in-gt0.false)) c.loop-name.invariant)
]
