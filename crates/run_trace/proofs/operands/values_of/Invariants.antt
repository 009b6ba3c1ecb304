use Rattle.run_trace.proofs.Common.{◌≡◌, ◌++◌, drop, values_of}
use Rattle.run_trace.proofs.operands.values_of.Given as goal

abbrev pub invariant-loop-operand : goal.invariant-loop-operand
invariant-loop-operand l = l.values ++ values_of l.registers (drop l.operand-index l.operands) ≡ values_of l.registers l.operands
