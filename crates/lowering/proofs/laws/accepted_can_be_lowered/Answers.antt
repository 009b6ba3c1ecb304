use Rattle.lowering.proofs.Accepted.{accepted_can_be_lowered}
use Rattle.lowering.proofs.laws.accepted_can_be_lowered.Goals as goal

pub returns : goal.returns
returns c = accepted_can_be_lowered
