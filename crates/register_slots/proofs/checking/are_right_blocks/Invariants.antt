use Rattle.register_slots.proofs.Common.{◌≡◌, ◌<◌, ℕ, [], Some, slice_index_or, Block, IsRightBlock}
use Rattle.std.proofs.Common.{slice_get}
use Rattle.register_slots.proofs.checking.are_right_blocks.Given as goal

abbrev pub invariant-loop-at : goal.invariant-loop-at
invariant-loop-at l = (k : ℕ) → k < l.at → (b : Block) → slice_get l.f.blocks k ≡ Some b → IsRightBlock l.f l.slots l.count l.lives (slice_index_or l.lives k []) b
