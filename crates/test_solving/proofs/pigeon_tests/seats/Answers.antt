use Rattle.std.proofs.Common.{[]}
use Rattle.bv_terms.specs.declared.variable.Variable.{Variable}
use Rattle.bv_terms.specs.Trees.{variables_among}
use Rattle.test_solving.specs.Over.{AreOver}
use Rattle.test_solving.proofs.pigeon_tests.seats.Goals as goal

pub goal_of-requires : goal.goal_of-requires
unfolding variables_among
goal_of-requires c = let x : Variable = record { number = 0; width = 12 } in rw c.new-terms.ensures (let none : AreOver x [] = tt in none)
