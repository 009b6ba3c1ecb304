use Rattle.memory_access.proofs.Stores.{loads-after_stores}
use Rattle.memory_access.proofs.laws.loads_give_stores.Goals as goal

pub returns : goal.returns
returns c = loads-after_stores
