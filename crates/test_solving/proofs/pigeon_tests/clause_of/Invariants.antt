use Rattle.test_solving.specs.Over.{AreOver}
use Rattle.test_solving.proofs.pigeon_tests.clause_of.Given as goal

abbrev pub invariant-literals : goal.invariant-literals
invariant-literals l = AreOver (record { number = 0; width = 12 }) l.terms
