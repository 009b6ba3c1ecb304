use Rattle.memory_access.proofs.Values.{value_of_bytes-value_bytes}
use Rattle.memory_access.proofs.laws.bytes_hold_values.Goals as goal

pub returns : goal.returns
returns c = value_of_bytes-value_bytes
