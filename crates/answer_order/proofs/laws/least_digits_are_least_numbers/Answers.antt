use Rattle.answer_order.proofs.Ordering.{least_digits}
use Rattle.answer_order.proofs.laws.least_digits_are_least_numbers.Goals as goal

pub returns : goal.returns
returns c = least_digits
