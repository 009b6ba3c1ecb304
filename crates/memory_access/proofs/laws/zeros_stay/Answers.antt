use Rattle.memory_access.proofs.Zeros.{zeros-stay}
use Rattle.memory_access.proofs.laws.zeros_stay.Goals as goal

pub returns : goal.returns
returns c = zeros-stay
