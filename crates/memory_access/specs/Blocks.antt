-- The blocks of a memory by their names, and the bytes of a block.
use Rattle.std.specs.Prelude.{ℕ, Bool, true, false, ◌&&◌, nat_eq, List, [], take, length, Option, Some, None}
use Rattle.std.specs.List.{find}
use Rattle.byte_block.specs.declared.value.BlockName.{BlockName}
use Rattle.byte_block.specs.declared.value.BlockName.TheVariants.{Null, Given, Local}
use Rattle.byte_block.specs.declared.value.Ptr.{Ptr}
use Rattle.byte_block.specs.declared.value.Byte.{Byte}
use Rattle.byte_block.specs.declared.block.MemoryBlock.{MemoryBlock}

abbrev pub equal_names : BlockName → BlockName → Bool
equal_names Null Null = true
equal_names (Given i) (Given j) = nat_eq i j
equal_names (Local turn place) (Local turn' place') = nat_eq turn turn' && nat_eq place place'
equal_names _ _ = false

abbrev pub equal_pointers : Ptr → Ptr → Bool
equal_pointers p q = equal_names p.block q.block && nat_eq p.offset q.offset

-- a name names the blocks that have it; Null names none
abbrev pub names : BlockName → MemoryBlock → Bool
names Null b = false
names (Given i) b = equal_names (Given i) b.name
names (Local turn place) b = equal_names (Local turn place) b.name

-- the first block that the name names
abbrev pub block_named : List MemoryBlock → BlockName → Option MemoryBlock
block_named memory name = find (names name) memory

-- the bytes of a block are its contents below its size
abbrev pub block_bytes : MemoryBlock → List Byte
block_bytes b = take b.size b.places

-- how many bytes it has; in a well-formed block this is its size
abbrev pub block_size : MemoryBlock → ℕ
block_size b = length (block_bytes b)

abbrev pub bytes_or_none : Option MemoryBlock → List Byte
bytes_or_none None = []
bytes_or_none (Some b) = block_bytes b

-- the bytes of the block that a name names; where it names no block there are none
abbrev pub bytes_named : List MemoryBlock → BlockName → List Byte
bytes_named memory name = bytes_or_none (block_named memory name)
