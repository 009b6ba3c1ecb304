use Rattle.std.proofs.Common.{◌<◌, ◌≤◌, arith}
use Rattle.claim_board.proofs.Steps.{split_allowed}
use Rattle.claim_board.proofs.board.Board.cut.Goals as goal

pub split_seat-requires : goal.split_seat-requires
split_seat-requires g c =
    let two = c.args.self.now.two_words in
    let some_word : 0 < c.args.self.now.table.shared.table_id.words = omega arith in
    let part = c.requires.part in
    let fits = c.requires.enough in
    let enough : g.P.Part.part ≤ c.args.seat.now.me.0.allowance = omega arith in
    (c.requires.seat.0, some_word, split_allowed _ _ g.P.Part.part _ enough)
