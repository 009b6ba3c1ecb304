use Rattle.points.proofs.Front.{numbers_compare_from_front}
use Rattle.points.proofs.laws.numbers_compare_from_front.Goals as goal

pub returns : goal.returns
returns c = numbers_compare_from_front
