use Rattle.std.proofs.Common.{◌≡◌, ◌++◌, map, drop}
use Rattle.lowering.specs.Lowered.{lowered_block}
use Rattle.lowering.proofs.blocks.lowered_blocks.Given as goal

abbrev pub invariant-loop-block : goal.invariant-loop-block
invariant-loop-block l =
    l.lowered ++ map (lowered_block l.plan.f.now) (drop l.block-index l.plan.f.now.blocks) ≡ map (lowered_block l.plan.f.now) l.plan.f.now.blocks
