use Rattle.verdicts.proofs.Sampled.{correct_holds}
use Rattle.verdicts.proofs.laws.correct_holds.Goals as goal

pub returns : goal.returns
returns c = correct_holds
