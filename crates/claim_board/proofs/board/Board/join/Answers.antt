use Rattle.std.proofs.Common.{◌<◌, arith}
use Rattle.claim_board.proofs.Steps.{join_allowed}
use Rattle.claim_board.proofs.board.Board.join.Goals as goal

pub join_seat-requires : goal.join_seat-requires
join_seat-requires c =
    let two = c.args.self.now.two_words in
    let some_word : 0 < c.args.self.now.table.shared.table_id.words = omega arith in
    (c.requires.seat.0, c.requires.other.0, c.requires.other.1, some_word, join_allowed _ _ _ _ _)
