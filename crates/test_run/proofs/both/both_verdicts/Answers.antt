use Rattle.module_rows.proofs.Pairs.{judgeable_lowered}
use Rattle.test_run.proofs.both.both_verdicts.Goals as goal

pub judge-requires : goal.judge-requires
judge-requires c = record {
  source_formed = c.requires.source.well_formed;
  target_formed = c.requires.target.well_formed;
  source_limits = c.requires.source.limits;
  target_limits = c.requires.target.limits;
  source_numbered = c.requires.source.numbered;
  target_numbered = c.requires.target.numbered;
  source_numbers = c.requires.source.numbers;
  target_numbers = c.requires.target.numbers;
  source_undefs = c.requires.source.undefs;
  target_undefs = c.requires.target.undefs;
}

pub slow-requires-clause-source_run : goal.slow-requires-clause-source_run
slow-requires-clause-source_run c = judgeable_lowered c.args.pair.now.source c.requires.source

pub slow-requires-clause-target_run : goal.slow-requires-clause-target_run
slow-requires-clause-target_run c = judgeable_lowered c.args.pair.now.target c.requires.target
