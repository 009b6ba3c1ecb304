use Rattle.slow_judge.proofs.Common.{◌≡◌, first_empty}
use Rattle.slow_judge.proofs.cells.blocks_without_bytes.Given as goal

abbrev pub invariant-loop-i : goal.invariant-loop-i
invariant-loop-i l = l.blocks.items ≡ first_empty l.layout l.i
