-- The trail is no longer than there are variables.
use Rattle.watch_solver.proofs.Common.{arith, standing, length-trail}
use Rattle.watch_solver.proofs.propagation.propagate.Goals as goal

pub queue-smaller : goal.queue-smaller
queue-smaller c =
    omega (arith, length-trail c.args.variables (standing c.args.clauses.now c.args.log.now) c.queue.trail c.queue.invariant.search.trail_is, c.queue-test.true, c.len.ensures)
