use Rattle.std.proofs.Common.{◌≡◌, ◌++◌, length}
use Rattle.trace_text.specs.TraceText.{operand_notes}
use Rattle.trace_text.proofs.notes.push_operands.Given as goal

abbrev pub invariant-operands : goal.invariant-operands
invariant-operands l = l.out.items ++ operand_notes l.names l.operands l.values ≡ l.fn.out.items ++ operand_notes l.names l.fn.operands l.fn.values

abbrev pub decreases-operands : goal.decreases-operands
decreases-operands l = length l.operands
