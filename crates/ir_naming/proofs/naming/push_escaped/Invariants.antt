use Rattle.std.proofs.Common.{◌≡◌, drop, ◌++◌}
use Rattle.std.specs.List.{flat_map}
use Rattle.ir_naming.specs.Naming.{escaped}
use Rattle.ir_naming.proofs.naming.push_escaped.Given as goal

abbrev pub invariant-loop-byte : goal.invariant-loop-byte
invariant-loop-byte l = l.out.items ++ flat_map escaped (drop l.byte-index l.bytes) ≡ l.fn.out.items ++ flat_map escaped l.bytes
