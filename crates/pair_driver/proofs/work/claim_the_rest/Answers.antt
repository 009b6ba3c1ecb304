use Rattle.std.proofs.Common.{◌<◌, ◌≤◌}
use Rattle.claim_board.specs.Seats.{hand_of}
use Rattle.pair_driver.proofs.Drawings.{claiming-ends, claiming-has_room, claiming-more}
use Rattle.pair_driver.proofs.work.claim_the_rest.Goals as goal

pub claim-number-requires-clause-allowance : goal.claim-number-requires-clause-allowance
claim-number-requires-clause-allowance c = claiming-has_room _ _ c.rest.invariant.1

pub returns-then-number-count : goal.returns-then-number-count
returns-then-number-count c =
    let past : c.args.count ≤ c.claim-number.result = c.if-number-count.true in
    rw c.claim-number.ensures.drawn (claiming-ends c.args.count c.claim-number.result (hand_of c.rest.seat) past)

pub rest-preserved : goal.rest-preserved
rest-preserved c =
    let below : c.claim-number.result < c.args.count = c.if-number-count.false in
    (c.claim-number.ensures.seat, rw c.claim-number.ensures.drawn (claiming-more c.args.count c.claim-number.result (hand_of c.rest.seat) c.rest.invariant.1 c.claim-number.ensures.above below))
