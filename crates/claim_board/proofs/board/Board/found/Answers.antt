use Rattle.std.proofs.Common.{◌<◌, arith}
use Rattle.claim_board.proofs.Steps.{find_allowed}
use Rattle.claim_board.proofs.board.Board.found.Goals as goal

pub fetch_min-requires : goal.fetch_min-requires
fetch_min-requires c =
    let two = c.args.self.now.two_words in
    let inside : 1 < c.args.self.now.table.shared.table_id.words = omega arith in
    (c.requires.seat.0, inside, find_allowed _ _ _ _ _ c.requires.item c.requires.drawn c.requires.once)
