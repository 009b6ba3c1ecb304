use Rattle.std.proofs.Common.{◌≡◌, ◌≤◌, vec_capacity}
use Rattle.claim_board.specs.Seats.{IsSeatOf, hand_of, items_of}
use Rattle.pair_driver.proofs.Drawings.{IsDrawing}
use Rattle.pair_driver.proofs.work.work.Given as goal

abbrev pub invariant-draws : goal.invariant-draws
invariant-draws g l =
    IsSeatOf l.board l.desk.seat
    × (items_of l.board ≡ g.T.Tasks.count l.tasks)
    × IsDrawing (g.T.Tasks.allows l.tasks) (g.T.Tasks.ending l.tasks) (g.T.Tasks.count l.tasks) (hand_of l.desk.seat) l.desk.answers.items
    × (g.T.Tasks.count l.tasks ≤ vec_capacity l.desk.answers)

abbrev pub decreases-draws : goal.decreases-draws
decreases-draws g l = (hand_of l.desk.seat).allowance
