use Rattle.std.proofs.Common.{subst}
use Rattle.lowering.specs.Plan.{IsPlanOf}
use Rattle.lowering.proofs.NoTrees.{lowered-same}
use Rattle.lowering.proofs.lowered.lower.Goals as goal

pub returns-in-None : goal.returns-in-None
returns-in-None c = lowered-same c.args.f.now (subst (IsPlanOf c.args.f.now) c.in-None.is c.in_ok-plan.ensures)
