use Rattle.run_trace.proofs.Common.{◌≡◌, ◌++◌, ◌∷◌, map, drop, used_as, index_operand}
use Rattle.ir_tree.specs.declared.tree.IrType.TheVariants.{Ptr}
use Rattle.run_trace.proofs.operands.base_and_indices.Given as goal

abbrev pub invariant-loop-index : goal.invariant-loop-index
invariant-loop-index l = l.list ++ map index_operand (drop l.index-index l.indices) ≡ used_as Ptr l.fn.base ∷ map index_operand l.indices
