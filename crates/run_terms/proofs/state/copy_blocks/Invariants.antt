-- The blocks so far are a prefix of the list.
use Rattle.run_terms.proofs.Common.{◌≡◌, take}
use Rattle.run_terms.proofs.state.copy_blocks.Given as goal

abbrev pub invariant-loop-block : goal.invariant-loop-block
invariant-loop-block l = l.copy.items ≡ take l.block-index l.blocks
