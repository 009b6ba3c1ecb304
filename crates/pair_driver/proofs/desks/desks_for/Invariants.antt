use Rattle.std.proofs.Common.{◌≡◌, ◌-◌, ◌*◌, ◌+◌, [], vec_len}
use Rattle.std.specs.Prelude.{All}
use Rattle.claim_board.specs.Board.{hand}
use Rattle.claim_board.specs.Seats.{IsSeatOf, hand_of}
use Rattle.pair_driver.specs.Draws.{IsFresh}
use Rattle.pair_driver.proofs.desks.desks_for.Given as goal

abbrev pub invariant-made : goal.invariant-made
invariant-made l =
    IsSeatOf l.board l.seat
    × (hand_of l.seat ≡ hand [] [] [] ((l.workers - l.counter) * (l.count + 1)))
    × (vec_len l.desks ≡ l.counter)
    × All (IsFresh l.board l.count) l.desks.items
