use Rattle.claim_board.proofs.Runs.{IsDrawn-run}
use Rattle.claim_board.proofs.laws.each_run_is_drawn.Goals as goal

pub returns : goal.returns
returns c = IsDrawn-run
