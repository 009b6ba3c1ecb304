use Rattle.std.proofs.Common.{◌<◌, subst, arith}
use Rattle.std.specs.Prelude.{Contains}
use Rattle.claim_board.specs.Seats.{hand_of, items_of}
use Rattle.claim_board.proofs.Steps.{look_allowed}
use Rattle.claim_board.proofs.board.Board.look_for.Goals as goal

pub load-requires : goal.load-requires
load-requires g c =
    let two = c.args.self.now.two_words in
    let inside : 1 < c.args.self.now.table.shared.table_id.words = omega arith in
    let is = c.requires.number in
    let item : g.N.Looked.number < items_of c.args.self.now = omega arith in
    let drawn : Contains (hand_of c.args.seat.now).drawn g.N.Looked.number = subst (Contains (hand_of c.args.seat.now).drawn) is c.requires.drawn in
    (c.requires.seat.0, inside, look_allowed _ _ _ g.N.Looked.number _ item drawn)
