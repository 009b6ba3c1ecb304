use Rattle.run_terms.proofs.Common.{Ub, Beyond}
use Rattle.run_terms.proofs.Moving.{ends_here}
use Rattle.run_terms.proofs.edges.follow.Goals as goal

pub returns-in_ok-end_beyond-in-Beyond-clause-leaves : goal.returns-in_ok-end_beyond-in-Beyond-clause-leaves
returns-in_ok-end_beyond-in-Beyond-clause-leaves c = rw c.in-Beyond.is (ends_here Beyond c.end_beyond.ensures.kept c.requires c.in_ok-end_beyond-in-Beyond.ensures.ends)

pub returns-in_ok-end_undefined-in-Nowhere-clause-leaves : goal.returns-in_ok-end_undefined-in-Nowhere-clause-leaves
returns-in_ok-end_undefined-in-Nowhere-clause-leaves c = rw c.in-Nowhere.is (ends_here Ub c.end_undefined.ensures.kept c.requires c.in_ok-end_undefined-in-Nowhere.ensures.ends)

pub returns-in-Copy-clause-leaves : goal.returns-in-Copy-clause-leaves
returns-in-Copy-clause-leaves c = rw c.in-Copy.is c.follow_to.ensures.leaves
