use Rattle.std.proofs.Common.{◌≡◌, ◌+◌, ◌*◌, ◌∙◌, sym, subst, arith}
use Rattle.claim_board.specs.Seats.{hand_of, total_of}
use Rattle.pair_driver.specs.Draws.{StopsAtFirst}
use Rattle.pair_driver.proofs.Merges.{each_reached, all_allowed, all_unique}
use Rattle.pair_driver.proofs.share.run_first.Goals as goal

pub place-requires-clause-unique : goal.place-requires-clause-unique
place-requires-clause-unique g c =
    let allows = g.T.Tasks.allows c.args.tasks.now in
    let ends = g.T.Tasks.ending c.args.tasks.now in
    let n = g.T.Tasks.count c.args.tasks.now in
    let drawn = c.in_ok-seat.field-0 in
    let done = c.in_ok-seat.ensures.done in
    let counted = c.len-count.ensures in
    let total : total_of c.in_ok-board.board ≡ c.args.workers * (n + 1) = rw counted at c.in_ok-board.ensures.total in
    let whole = done.budget ∙ sym total in
    λ _ _. all_unique allows ends n c.args.workers c.close_with.result (hand_of drawn.seat) drawn.answers.items done (c.close_with.ensures.all whole) c.close_with.ensures.below

pub place-requires-clause-each : goal.place-requires-clause-each
place-requires-clause-each g c =
    let allows = g.T.Tasks.allows c.args.tasks.now in
    let ends = g.T.Tasks.ending c.args.tasks.now in
    let n = g.T.Tasks.count c.args.tasks.now in
    let drawn = c.in_ok-seat.field-0 in
    let done = c.in_ok-seat.ensures.done in
    let counted = c.len-count.ensures in
    let total : total_of c.in_ok-board.board ≡ c.args.workers * (n + 1) = rw counted at c.in_ok-board.ensures.total in
    let whole = done.budget ∙ sym total in
    λ _ _ x inside. each_reached allows ends n c.args.workers c.close_with.result (hand_of drawn.seat) drawn.answers.items done (c.close_with.ensures.all whole) c.close_with.ensures.below (c.close_with.ensures.passed whole) x (omega arith)

pub returns : goal.returns
returns g c =
    let allows = g.T.Tasks.allows c.args.tasks.now in
    let ends = g.T.Tasks.ending c.args.tasks.now in
    let n = g.T.Tasks.count c.args.tasks.now in
    let drawn = c.in_ok-seat.field-0 in
    let placed = c.in_ok-placed.placed in
    let stops : StopsAtFirst ends n placed.items = subst (λ m. StopsAtFirst ends m placed.items) c.len-count.ensures c.in_ok-placed.ensures.stops in
    all_allowed allows ends n c.args.workers (hand_of drawn.seat) drawn.answers.items placed.items c.in_ok-seat.ensures.done stops c.in_ok-placed.ensures.placed
