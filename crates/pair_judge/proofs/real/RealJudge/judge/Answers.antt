use Rattle.lowering.proofs.Accepted.{accepted_can_be_lowered}
use Rattle.pair_judge.proofs.real.RealJudge.judge.Goals as goal

pub settle-requires-clause-source_run : goal.settle-requires-clause-source_run
settle-requires-clause-source_run c = accepted_can_be_lowered c.args.pair.now.source c.requires.source_numbered c.requires.source_formed c.requires.source_limits c.requires.source_numbers c.requires.source_undefs

pub settle-requires-clause-target_run : goal.settle-requires-clause-target_run
settle-requires-clause-target_run c = accepted_can_be_lowered c.args.pair.now.target c.requires.target_numbered c.requires.target_formed c.requires.target_limits c.requires.target_numbers c.requires.target_undefs
