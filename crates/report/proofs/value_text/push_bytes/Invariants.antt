use Rattle.std.proofs.Common.{◌≡◌, drop, ◌++◌}
use Rattle.std.specs.List.{flat_map}
use Rattle.report.specs.Text.{spaced_byte}
use Rattle.report.proofs.value_text.push_bytes.Given as goal

abbrev pub invariant-loop-byte : goal.invariant-loop-byte
invariant-loop-byte l = l.out.items ++ flat_map spaced_byte (drop l.byte-index l.bytes) ≡ l.fn.out.items ++ flat_map spaced_byte l.bytes
