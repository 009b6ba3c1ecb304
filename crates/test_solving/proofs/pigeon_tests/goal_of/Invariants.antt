use Rattle.test_solving.specs.Over.{AreOver}
use Rattle.test_solving.proofs.pigeon_tests.goal_of.Given as goal

abbrev pub invariant-clauses : goal.invariant-clauses
invariant-clauses l = AreOver (record { number = 0; width = 12 }) l.terms
