use Rattle.std.proofs.Common.{rules}
use Rattle.test_meaning.proofs.Accepted.{judgeable_lowered}
use Rattle.test_meaning.proofs.judge_tests.verdict.Goals as goal

pub slow-requires-clause-source_run : goal.slow-requires-clause-source_run
slow-requires-clause-source_run c = judgeable_lowered c.in_ok-pair.pair.source (search rules)

pub slow-requires-clause-target_run : goal.slow-requires-clause-target_run
slow-requires-clause-target_run c = judgeable_lowered c.in_ok-pair.pair.target (search rules)
