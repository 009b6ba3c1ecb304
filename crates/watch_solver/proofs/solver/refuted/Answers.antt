-- The last step is sound and the others were.
use Rattle.watch_solver.proofs.Common.{search-careful-more, search-refutes}
use Rattle.watch_solver.proofs.solver.refuted.Goals as goal

pub returns : goal.returns
returns c =
    let empty = rw c.as_slice.ensures at c.in_ok-step.ensures in
    rw c.in_ok-push.ensures.ok
    (search-refutes c.args.variables c.args.clauses.now c.args.log c.args.trail.now c.requires.search c.in_ok-step.step empty, search-careful-more c.args.variables c.args.clauses.now c.args.log c.args.trail.now c.requires.search c.in_ok-step.step empty)
