use Rattle.pair_driver.specs.Incorrect.{is_incorrect}
use Rattle.pair_driver.proofs.Zips.{AllZip-first}
use Rattle.pair_driver.proofs.pairs.drive_first.Goals as goal

pub returns-clause-allowed : goal.returns-clause-allowed
returns-clause-allowed g c = AllZip-first (g.J.Judge.allows c.args.judge.now) is_incorrect c.args.pairs.now c.in_ok-answers.answers.items c.in_ok-answers.ensures

pub returns-clause-stops : goal.returns-clause-stops
returns-clause-stops g c = c.in_ok-answers.ensures.stops
