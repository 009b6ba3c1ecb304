use Rattle.claim_board.proofs.board.Board.split.Given as goal

abbrev pub ghosts-cut : goal.ghosts-cut
ghosts-cut a = record { part = a.allowance }
