use Rattle.std.proofs.Common.{refl}
use Rattle.claim_board.specs.Board.{begins}
use Rattle.claim_board.proofs.board.Board.new.Goals as goal

pub of_words-requires : goal.of_words-requires
of_words-requires c = (refl, c.requires.fits, begins)
