use Rattle.slow_judge.proofs.IntegerParameters.{together, one_by_one}
use Rattle.slow_judge.proofs.pointers.are_integers.Goals as goal

pub returns : goal.returns
returns c = (λ h. together c.args.parameters.now (c.is_each_integer.ensures.0 h), λ h. c.is_each_integer.ensures.1 (one_by_one c.args.parameters.now h))
