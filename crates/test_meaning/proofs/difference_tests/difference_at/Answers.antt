use Rattle.test_meaning.proofs.Accepted.{judgeable_lowered}
use Rattle.test_meaning.proofs.difference_tests.difference_at.Goals as goal

pub trace_pair-requires-clause-source : goal.trace_pair-requires-clause-source
trace_pair-requires-clause-source c = judgeable_lowered c.args.pair.now.source c.requires.source

pub trace_pair-requires-clause-target : goal.trace_pair-requires-clause-target
trace_pair-requires-clause-target c = judgeable_lowered c.args.pair.now.target c.requires.target
