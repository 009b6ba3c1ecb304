-- What a load gives, and what a store and an alloca leave (LLVM Language Reference, "load
-- Instruction", "store Instruction", "alloca Instruction", "Pointer Aliasing Rules").
use Rattle.std.specs.Prelude.{ℕ, ◌+◌, ◌%◌, Bool, false, ◌&&◌, nat_eq, nat_le, if◌then◌else◌, List, [], ◌∷◌, ◌++◌, take, drop, length, replicate, Option, Some, None}
use Rattle.byte_block.specs.declared.value.BlockName.{BlockName}
use Rattle.byte_block.specs.declared.value.Value.{Value}
use Rattle.byte_block.specs.declared.value.Value.TheVariants as value
use Rattle.byte_block.specs.declared.value.Byte.{Byte}
use Rattle.byte_block.specs.declared.value.Byte.TheVariants as byte
use Rattle.byte_block.specs.declared.block.MemoryBlock.{MemoryBlock}
use Rattle.memory_access.specs.declared.access_types.Access.{Access}
use Rattle.memory_access.specs.declared.access_types.Loaded.{Loaded}
use Rattle.memory_access.specs.declared.access_types.Loaded.TheVariants as loaded
use Rattle.memory_access.specs.declared.access_types.Stored.{Stored}
use Rattle.memory_access.specs.declared.access_types.Stored.TheVariants as stored
use Rattle.memory_access.specs.Blocks.{names, block_named, block_size, bytes_named}
use Rattle.memory_access.specs.Bytes.{access_size, value_bytes, value_of_bytes}

-- ---- where an access is defined

-- a block is there, it has n bytes from the offset on, and it and the offset are aligned
abbrev pub admits : Option MemoryBlock → ℕ → ℕ → ℕ → Bool
admits None offset n align = false
admits (Some b) offset n align =
    nat_le (offset + n) (block_size b) && nat_le align b.align && nat_eq (offset % align) 0

-- an access of n bytes at a pointer whose block admits it; any other is undefined behaviour
abbrev pub is_defined : List MemoryBlock → Value → ℕ → ℕ → Bool
is_defined memory (value.Ptr p) n align = admits (block_named memory p.block) p.offset n align
is_defined memory _ n align = false

-- ---- load

-- the n bytes at a pointer
abbrev pub bytes_at : List MemoryBlock → Value → ℕ → List Byte
bytes_at memory (value.Ptr p) n = take n (drop p.offset (bytes_named memory p.block))
bytes_at memory _ n = []

abbrev pub load_result : List MemoryBlock → Value → Access → ℕ → Loaded
load_result memory at access align =
    if is_defined memory at (access_size access) align
    then loaded.Done (value_of_bytes access (bytes_at memory at (access_size access)))
    else loaded.Ub

-- ---- store

-- these bytes instead of those from the offset on
abbrev pub overwritten : List Byte → ℕ → MemoryBlock → MemoryBlock
overwritten bytes offset b =
    record b { places = take offset b.places ++ (bytes ++ drop (offset + length bytes) b.places) }

-- the first item that passes the test is changed
unfoldable pub first_changed : {A : Type 0} → (A → Bool) → (A → A) → List A → List A
first_changed test change [] = []
first_changed test change (x ∷ xs) =
    if test x then change x ∷ xs else x ∷ first_changed test change xs

-- the bytes at a pointer are these, and all else is unchanged
abbrev pub with_bytes : List MemoryBlock → Value → List Byte → List MemoryBlock
with_bytes memory (value.Ptr p) bytes =
    first_changed (names p.block) (overwritten bytes p.offset) memory
with_bytes memory _ bytes = memory

abbrev pub store_result : List MemoryBlock → Access → Value → ℕ → Stored
store_result memory access at align =
    if is_defined memory at (access_size access) align then stored.Done else stored.Ub

-- the memory after a store; undefined behaviour leaves it unchanged
abbrev pub after_store : List MemoryBlock → Value → Access → Value → ℕ → List MemoryBlock
after_store memory value access at align =
    if is_defined memory at (access_size access) align
    then with_bytes memory at (value_bytes access value)
    else memory

-- ---- alloca

-- a block whose bytes are poison
abbrev pub poison_block : BlockName → ℕ → ℕ → MemoryBlock
poison_block name size align =
    record { name = name; size = size; align = align; places = replicate size (byte.Bits 0 255) }

-- one more block, after the others
abbrev pub after_alloca : List MemoryBlock → BlockName → ℕ → ℕ → List MemoryBlock
after_alloca memory name size align = memory ++ poison_block name size align ∷ []
