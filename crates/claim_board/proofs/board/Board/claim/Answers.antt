use Rattle.std.proofs.Common.{◌<◌, arith}
use Rattle.claim_board.proofs.Steps.{claim_allowed}
use Rattle.claim_board.proofs.board.Board.claim.Goals as goal

pub fetch_add-requires : goal.fetch_add-requires
fetch_add-requires c =
    let two = c.args.self.now.two_words in
    let some_word : 0 < c.args.self.now.table.shared.table_id.words = omega arith in
    (c.requires.seat.0, some_word, claim_allowed _ _ _ _ c.requires.allowance)
