-- Before the first clause nothing is watched.
use Rattle.watch_solver.proofs.Common.{length, refl, slice_get_read}
use Rattle.watch_solver.proofs.Starting.{started-none}
use Rattle.watch_solver.proofs.start.begin.Goals as goal

pub loop-index-init : goal.loop-index-init
loop-index-init c =
    started-none c.args.variables c.args.clauses.now c.in_ok-watches.watches.pairs.items c.in_ok-watches.watches.lists.items c.new-trail.result c.requires.in_range c.new-trail.ensures
    c.in_ok-watches.ensures.pairs c.in_ok-watches.ensures.length c.in_ok-watches.ensures.empty

pub add_clause-requires-clause-clause : goal.add_clause-requires-clause-clause
add_clause-requires-clause-clause c = slice_get_read c.args.clauses.now (length c.args.clauses.now) c.loop-index.index c.index-clauses-index.result refl c.loop-index-test.true c.index-clauses-index.is
