use Rattle.memory_access.proofs.Stores.{frames-after_store}
use Rattle.memory_access.proofs.laws.stores_keep_frames.Goals as goal

pub returns : goal.returns
returns c = frames-after_store
