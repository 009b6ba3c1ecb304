use Rattle.pair_judge.proofs.Told.{answers_are_verdicts}
use Rattle.pair_judge.proofs.laws.answers_are_verdicts.Goals as goal

pub returns : goal.returns
returns c = answers_are_verdicts
