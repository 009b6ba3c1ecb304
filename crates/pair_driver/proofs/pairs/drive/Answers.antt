use Rattle.pair_driver.proofs.Zips.{AllZip-run}
use Rattle.pair_driver.proofs.pairs.drive.Goals as goal

pub returns : goal.returns
returns g c = AllZip-run (g.J.Judge.allows c.args.judge.now) c.args.pairs.now c.in_ok-answers.answers.items c.in_ok-answers.ensures
