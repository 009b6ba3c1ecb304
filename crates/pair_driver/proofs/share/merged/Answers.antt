use Rattle.std.proofs.Common.{refl}
use Rattle.claim_board.specs.Seats.{hand_of}
use Rattle.pair_driver.proofs.Drawings.{done-both}
use Rattle.pair_driver.proofs.share.merged.Goals as goal

pub returns : goal.returns
returns g c =
    let mine = c.args.mine in
    let theirs = c.args.theirs in
    let allows = g.T.Tasks.allows c.args.tasks.now in
    let ends = g.T.Tasks.ending c.args.tasks.now in
    let n = g.T.Tasks.count c.args.tasks.now in
    record {
      seat = c.join.ensures.seat;
      done = rw (c.join.ensures.both, c.in_ok-append.ensures.items)
          (done-both allows ends n 1 c.args.others _ (hand_of mine.seat) (hand_of theirs.seat) mine.answers.items theirs.answers.items refl c.requires.mine.done c.requires.theirs.done);
    }
