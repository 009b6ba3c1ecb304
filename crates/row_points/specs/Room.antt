-- Whether a block has the room that a layout says.
use Rattle.std.specs.Prelude.{◌≡◌, ◌≤◌, ◌-◌, length, drop, replicate}
use Rattle.byte_block.specs.declared.block.MemoryBlock.{MemoryBlock}
use Rattle.byte_block.specs.declared.value.Byte.TheVariants as byte
use Rattle.points.specs.declared.point.Layout.{Layout}

-- room for as many bytes as the layout says, and those past the block's size are the number 0
pub record HasRoom (layout : Layout) (block : MemoryBlock) : Type 0 where
  pub small : block.size ≤ layout.bytes
  pub room : length block.places ≡ layout.bytes
  pub past : drop block.size block.places ≡ replicate (layout.bytes - block.size) (byte.Bits 0 0)
