use Rattle.run_trace.proofs.Common.{◌≡◌, drop, list_any, is_poison_literal}
use Rattle.run_trace.proofs.operands.has_poison_literal.Given as goal

abbrev pub invariant-loop-operand : goal.invariant-loop-operand
invariant-loop-operand l = list_any (is_poison_literal l.registers) (drop l.operand-index l.operands) ≡ list_any (is_poison_literal l.registers) l.operands
