-- What follows from the definitions.
use Rattle.std.specs.Prelude.{◌≡◌, ◌⊎◌, ℕ, ◌+◌, ◌^◌, ◌<◌, ◌≤◌, List, map, length, All, Some, slice_get, Bool}
use Rattle.byte_block.specs.declared.value.BlockName.{BlockName}
use Rattle.byte_block.specs.declared.value.Ptr.{Ptr}
use Rattle.byte_block.specs.declared.value.Value.{Value}
use Rattle.byte_block.specs.declared.value.Value.TheVariants as value
use Rattle.byte_block.specs.declared.value.Byte.{Byte}
use Rattle.byte_block.specs.declared.value.Byte.TheVariants as byte
use Rattle.byte_block.specs.declared.block.MemoryBlock.{MemoryBlock}
use Rattle.memory_access.specs.declared.access_types.Access.{Access}
use Rattle.memory_access.specs.declared.access_types.Access.TheVariants.{Int, Pointer}
use Rattle.memory_access.specs.declared.access_types.Loaded.TheVariants as loaded
use Rattle.memory_access.specs.declared.access_types.Stored.TheVariants as stored
use Rattle.memory_access.specs.declared.offsets.Index.{Index}
use Rattle.memory_access.specs.Blocks.{bytes_named}
use Rattle.memory_access.specs.Bytes.{access_size, number_bytes, number_of_bytes, value_bytes, value_of_bytes}
use Rattle.memory_access.specs.Accesses.{load_result, store_result, after_store}
use Rattle.memory_access.specs.Offsets.{gep_result}

-- ---- bytes

-- a number that n bytes can hold is the number of its bytes
abbrev pub BytesHoldNumbers : Type 0
BytesHoldNumbers = (n a : ℕ) → a < 256 ^ n → number_of_bytes (number_bytes n a) ≡ Some a

abbrev pub IsByte : Byte → Type 0
IsByte (byte.Bits b m) = b < 256
IsByte _ = Unit {0}

-- bytes that are numbers are the bytes of their number
abbrev pub NumbersHoldBytes : Type 0
NumbersHoldBytes = (bytes : List Byte) (a : ℕ) → All IsByte bytes → number_of_bytes bytes ≡ Some a
    → number_bytes (length bytes) a ≡ bytes

-- poison, or a value of the access's kind
abbrev pub Fits : Access → Value → Type 0
Fits access value.Poison = Unit {0}
Fits (Int w) (value.Num a) = a < 2 ^ w.bits
Fits (Int w) (value.Ptr p) = ⊥
Fits Pointer (value.Num a) = ⊥
Fits Pointer (value.Ptr p) = Unit {0}

-- a value that fits an access is the value of its bytes
abbrev pub BytesHoldValues : Type 0
BytesHoldValues = (access : Access) (v : Value) → Fits access v
    → value_of_bytes access (value_bytes access v) ≡ v

-- ---- loads and stores

-- a load of what was stored, by the same access at the same address
abbrev pub LoadsGiveStores : Type 0
LoadsGiveStores = (memory : List MemoryBlock) (v : Value) (access : Access) (at : Value) (align : ℕ)
    → Fits access v
    → store_result memory access at align ≡ stored.Done
    → load_result (after_store memory v access at align) at access align ≡ loaded.Done v

-- the byte of a name's block at an index isn't one of the n bytes at a pointer
abbrev pub IsElsewhere : BlockName → ℕ → Ptr → ℕ → Type 0
IsElsewhere name k p n = ¬ (name ≡ p.block) ⊎ (k < p.offset) ⊎ (p.offset + n ≤ k)

-- a store leaves each byte elsewhere as it was
abbrev pub StoresKeepOthers : Type 0
StoresKeepOthers = (memory : List MemoryBlock) (v : Value) (access : Access) (p : Ptr) (align : ℕ)
    (name : BlockName) (k : ℕ)
    → IsElsewhere name k p (access_size access)
    → slice_get (bytes_named (after_store memory v access (value.Ptr p) align) name) k
    ≡ slice_get (bytes_named memory name) k

-- a block without its bytes
pub record Frame : Type 0 where
  pub name : BlockName
  pub size : ℕ
  pub align : ℕ
  pub places : ℕ

abbrev pub frame_of : MemoryBlock → Frame
frame_of b = record { name = b.name; size = b.size; align = b.align; places = length b.places }

-- a store keeps each block's name, size, alignment and the length of its contents
abbrev pub StoresKeepFrames : Type 0
StoresKeepFrames = (memory : List MemoryBlock) (v : Value) (access : Access) (at : Value)
    (align : ℕ)
    → map frame_of (after_store memory v access at align) ≡ map frame_of memory

-- ---- getelementptr

abbrev pub IsZero : Index → Type 0
IsZero i = i.value ≡ value.Num 0

-- indices that are all 0 lead to the base, inbounds or not
abbrev pub ZerosStay : Type 0
ZerosStay = (memory : List MemoryBlock) (p : Ptr) (indices : List Index) (inbounds nuw : Bool)
    → p.offset < 2 ^ 64
    → All IsZero indices
    → gep_result memory (value.Ptr p) indices inbounds nuw ≡ value.Ptr p
