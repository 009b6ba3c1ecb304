use Rattle.claim_board.proofs.board.Board.look.Given as goal

abbrev pub ghosts-look_for : goal.ghosts-look_for
ghosts-look_for a = record { number = a.number }
