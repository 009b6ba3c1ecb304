use Rattle.ir_numbering.proofs.Common.{◌≡◌, ◌++◌, drop, flat_map, index_places}
use Rattle.ir_numbering.proofs.places.add_indices.Given as goal

abbrev pub invariant-loop-index : goal.invariant-loop-index
invariant-loop-index l = l.places ++ flat_map index_places (drop l.index-index l.indices) ≡ l.fn.places ++ flat_map index_places l.indices
