use Rattle.tv_run.proofs.OneFault.{faults_are_one}
use Rattle.tv_run.proofs.laws.faults_are_one.Goals as goal

pub returns : goal.returns
returns c = faults_are_one c.is_one_module.ensures.apart c.is_one_module.ensures.faults
