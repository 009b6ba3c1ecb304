use Rattle.register_slots.proofs.Beginning.{allocations_keep_runs}
use Rattle.register_slots.proofs.laws.allocations_keep_runs.Goals as goal

pub returns : goal.returns
returns c = allocations_keep_runs
