use Rattle.tv_run.proofs.OneFault.{modules_have_no_fault}
use Rattle.tv_run.proofs.laws.modules_have_no_fault.Goals as goal

pub returns : goal.returns
returns c = modules_have_no_fault c.is_one_module.ensures.apart
