use Rattle.verdicts.proofs.One.{verdicts_are_one}
use Rattle.verdicts.proofs.laws.verdicts_are_one.Goals as goal

pub returns : goal.returns
returns c = verdicts_are_one
