use Rattle.memory_access.proofs.Values.{number_bytes-number_of}
use Rattle.memory_access.proofs.laws.numbers_hold_bytes.Goals as goal

pub returns : goal.returns
returns c = number_bytes-number_of
