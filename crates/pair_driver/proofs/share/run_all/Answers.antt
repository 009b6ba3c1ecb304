use Rattle.pair_driver.proofs.Zips.{AreRun-endless}
use Rattle.pair_driver.proofs.share.run_all.Goals as goal

pub returns : goal.returns
returns g c =
    AreRun-endless (g.T.Tasks.allows c.args.tasks.now) (g.T.Tasks.ending c.args.tasks.now) (g.T.Tasks.count c.args.tasks.now) c.in_ok-answers.answers.items c.requires.endless c.in_ok-answers.ensures
