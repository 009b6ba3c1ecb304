use Rattle.run_trace.proofs.Common.{◌≡◌, drop, find}
use Rattle.memory_access.specs.Blocks.{names, block_named}
use Rattle.run_trace.proofs.locations.block_named.Given as goal

abbrev pub invariant-loop-block : goal.invariant-loop-block
invariant-loop-block l = block_named l.blocks l.name ≡ find (names l.name) (drop l.block-index l.blocks)
