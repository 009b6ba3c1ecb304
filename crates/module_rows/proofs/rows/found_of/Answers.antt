use Rattle.module_rows.proofs.Runnable.{source_runnable, target_runnable}
use Rattle.module_rows.proofs.rows.found_of.Goals as goal

pub judged-requires-clause-source : goal.judged-requires-clause-source
judged-requires-clause-source c = source_runnable c.args.source.now c.in-Some.pair.source c.requires.source_judgeable c.in-Some.ensures.source

pub judged-requires-clause-target : goal.judged-requires-clause-target
judged-requires-clause-target c = target_runnable c.args.target c.in-Some.pair.target c.requires.target_judgeable c.in-Some.ensures.target
