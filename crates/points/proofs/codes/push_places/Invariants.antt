use Rattle.points.proofs.Common.{◌≡◌, ◌++◌, drop, flat_map, Layout, places_code}
use Rattle.points.proofs.codes.push_places.Given as goal

abbrev pub invariant-loop-block : goal.invariant-loop-block
invariant-loop-block l = (layout : Layout) → l.code.items ++ flat_map (places_code layout) (drop l.block-index l.memory) ≡ l.fn.code.items ++ flat_map (places_code layout) l.memory
