use Rattle.register_slots.proofs.Common.{◌≡◌, ◌++◌, map, drop, index_in}
use Rattle.register_slots.proofs.renaming.indices_in.Given as goal

abbrev pub invariant-loop-index : goal.invariant-loop-index
invariant-loop-index l = l.renamed ++ map (index_in l.slots) (drop l.index-index l.indices) ≡ map (index_in l.slots) l.indices
