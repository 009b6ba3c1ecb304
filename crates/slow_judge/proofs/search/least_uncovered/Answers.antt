use Rattle.slow_judge.proofs.Common.{refl}
use Rattle.slow_judge.proofs.Blocks.{cells_decide}
use Rattle.slow_judge.proofs.search.least_uncovered.Goals as goal

pub returns-then-have_no_pointers-clause-found : goal.returns-then-have_no_pointers-clause-found
returns-then-have_no_pointers-clause-found c = cells_decide c.args.pair.now (c.if-have_no_pointers.ensures.0 refl) c.args.bounds.now c.args.tapes.now c.in_ok-found.found c.requires.small c.in_ok-found.ensures.found
