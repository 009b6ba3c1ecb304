use Rattle.points.proofs.Common.{◌≡◌, ◌++◌, drop, flat_map, Layout, byte_code}
use Rattle.points.proofs.codes.push_bytes.Given as goal

abbrev pub invariant-loop-byte : goal.invariant-loop-byte
invariant-loop-byte l = (layout : Layout) → l.code.items ++ flat_map (byte_code layout) (drop l.byte-index l.places) ≡ l.fn.code.items ++ flat_map (byte_code layout) l.places
