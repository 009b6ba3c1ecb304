use Rattle.test_meaning.proofs.Accepted.{judgeable_lowered}
use Rattle.test_meaning.proofs.unroll_tests.measured.Goals as goal

pub weight-requires-clause-source_leaves : goal.weight-requires-clause-source_leaves
weight-requires-clause-source_leaves c = (judgeable_lowered c.in_ok-pair.pair.source c.in_ok-pair.ensures.source).leaves

pub weight-requires-clause-target_leaves : goal.weight-requires-clause-target_leaves
weight-requires-clause-target_leaves c = (judgeable_lowered c.in_ok-pair.pair.target c.in_ok-pair.ensures.target).leaves
