use Rattle.mem_terms.proofs.Later.{is_outcome-later}
use Rattle.test_solving.proofs.memory_outcome_tests.is_covered.Goals as goal

pub covered-requires-clause-source : goal.covered-requires-clause-source
covered-requires-clause-source c = is_outcome-later c.outcome.new.terms c.outcome-2.new.terms c.outcome-2.ensures.kept c.in_ok-from.from c.in_ok-from.ensures.made
