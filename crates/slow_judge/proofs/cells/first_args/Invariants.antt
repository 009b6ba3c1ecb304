use Rattle.slow_judge.proofs.Common.{◌≡◌, take, least_args}
use Rattle.slow_judge.proofs.cells.first_args.Given as goal

abbrev pub invariant-loop-parameter : goal.invariant-loop-parameter
invariant-loop-parameter l = l.args.items ≡ least_args (take l.parameter-index l.parameters)
