use Rattle.unroll.proofs.Walking.{layers_have_runs}
use Rattle.unroll.proofs.laws.layers_have_runs.Goals as goal

pub returns : goal.returns
returns c = layers_have_runs
