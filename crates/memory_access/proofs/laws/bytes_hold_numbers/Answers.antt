use Rattle.memory_access.proofs.Values.{number_of-number_bytes}
use Rattle.memory_access.proofs.laws.bytes_hold_numbers.Goals as goal

pub returns : goal.returns
returns c = number_of-number_bytes
