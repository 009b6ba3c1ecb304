use Rattle.verdicts.proofs.Sampled.{incorrect_fails}
use Rattle.verdicts.proofs.laws.incorrect_fails.Goals as goal

pub returns : goal.returns
returns c = incorrect_fails
