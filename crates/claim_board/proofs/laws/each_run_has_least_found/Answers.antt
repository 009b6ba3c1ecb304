use Rattle.claim_board.proofs.Found.{IsLeastFound-run}
use Rattle.claim_board.proofs.laws.each_run_has_least_found.Goals as goal

pub returns : goal.returns
returns c = IsLeastFound-run
