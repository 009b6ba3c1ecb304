use Rattle.ir_tree.proofs.Common.{◌≡◌, ◌+◌, sum_by, drop, instructions_of}
use Rattle.ir_tree.proofs.limits.has_few_instructions.Given as goal

abbrev pub invariant-loop-block : goal.invariant-loop-block
invariant-loop-block l = sum_by instructions_of l.blocks + l.left ≡ 65536 + sum_by instructions_of (drop l.block-index l.blocks)
