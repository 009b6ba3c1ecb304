use Rattle.ir_reader.proofs.OneFunction.{one_function}
use Rattle.ir_reader.proofs.laws.is_one_function.Goals as goal

pub returns : goal.returns
returns c = one_function
