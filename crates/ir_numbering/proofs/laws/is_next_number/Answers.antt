use Rattle.ir_numbering.proofs.NextValue.{next-name}
use Rattle.ir_numbering.proofs.laws.is_next_number.Goals as goal

pub returns : goal.returns
returns c = next-name
