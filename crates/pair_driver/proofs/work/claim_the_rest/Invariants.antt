use Rattle.claim_board.specs.Seats.{IsSeatOf, hand_of}
use Rattle.pair_driver.specs.Draws.{IsClaiming}
use Rattle.pair_driver.proofs.work.claim_the_rest.Given as goal

abbrev pub invariant-rest : goal.invariant-rest
invariant-rest l = IsSeatOf l.board l.seat × IsClaiming l.count (hand_of l.seat)

abbrev pub decreases-rest : goal.decreases-rest
decreases-rest l = (hand_of l.seat).allowance
