use Rattle.memory_access.proofs.Stores.{others-after_store}
use Rattle.memory_access.proofs.laws.stores_keep_others.Goals as goal

pub returns : goal.returns
returns c = others-after_store
