use Rattle.std.proofs.Common.{◌≡◌, ◌++◌, map, drop}
use Rattle.ir_tree.specs.declared.tree.Block.{Block}
use Rattle.ir_tree.specs.Flow.{assigned_with, assigns}
use Rattle.assigned_names.proofs.assigning.assigns_of.Given as goal

abbrev pub invariant-loop-block : goal.invariant-loop-block
invariant-loop-block l = l.lists ++ map (λ (b : Block). assigned_with b b.insts) (drop l.block-index l.f.blocks) ≡ assigns l.f
