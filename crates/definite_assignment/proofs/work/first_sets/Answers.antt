use Rattle.definite_assignment.proofs.Common.{refl}
use Rattle.definite_assignment.proofs.Search.{first_sets-more}
use Rattle.definite_assignment.proofs.work.first_sets.Goals as goal

pub loop-block-init : goal.loop-block-init
loop-block-init c = rw (c.in_ok-push.ensures.ok, c.from_vec-sets.ensures, c.new.ensures.items, c.in_ok-none.ensures) refl

pub loop-block-preserved : goal.loop-block-preserved
loop-block-preserved c = rw (c.in_ok-push-2.ensures.ok, c.in_ok-every.ensures, c.loop-block.invariant) (first_sets-more c.loop-block._block c.args.names c.loop-block.auto._block)
