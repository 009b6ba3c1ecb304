use Rattle.answer_order.proofs.Ordering.{no_digits}
use Rattle.answer_order.proofs.laws.no_digits_are_no_numbers.Goals as goal

pub returns : goal.returns
returns c = no_digits
