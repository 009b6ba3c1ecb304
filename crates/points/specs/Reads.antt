-- What the numbers of a code denote.
use Rattle.std.specs.Prelude.{◌≡◌, ℕ, zero, suc, ◌+◌, ◌*◌, ◌^◌, ◌<◌, ◌≤◌, List, [], ◌∷◌, length, drop, slice_index, sum_by}
use Rattle.ir_tree.specs.declared.tree.IrType.{IrType}
use Rattle.ir_tree.specs.declared.tree.IrType.TheVariants as type
use Rattle.ir_tree.specs.declared.tree.Parameter.{Parameter}
use Rattle.byte_block.specs.declared.value.BlockName.{BlockName}
use Rattle.byte_block.specs.declared.value.BlockName.TheVariants.{Null, Given}
use Rattle.byte_block.specs.declared.value.Ptr.{Ptr}
use Rattle.byte_block.specs.declared.value.Value.{Value}
use Rattle.byte_block.specs.declared.value.Value.TheVariants as value
use Rattle.byte_block.specs.declared.value.Byte.{Byte}
use Rattle.byte_block.specs.declared.value.Byte.TheVariants as byte
use Rattle.byte_block.specs.declared.block.MemoryBlock.{MemoryBlock}
use Rattle.points.specs.declared.point.Layout.{Layout}

-- how many numbers a value of the type has
abbrev pub value_length : IrType → ℕ
value_length (type.Int width) = 2
value_length type.Ptr = 3

abbrev pub args_length : List Parameter → ℕ
args_length ps = sum_by (λ (p : Parameter). value_length p.of_type) ps

-- 0 is null
abbrev pub name_from : ℕ → BlockName
name_from zero = Null
name_from (suc n) = Given (suc n)

abbrev pub pointer_from : ℕ → ℕ → Ptr
pointer_from block offset = record { block = name_from block; offset = offset }

-- the value whose numbers come first
abbrev pub value_from : IrType → List ℕ → Value
value_from (type.Int width) (zero ∷ n ∷ rest) = value.Num n
value_from (type.Int width) _ = value.Poison
value_from type.Ptr (zero ∷ block ∷ offset ∷ rest) = value.Ptr (pointer_from block offset)
value_from type.Ptr _ = value.Poison

abbrev pub args_from : List Parameter → List ℕ → List Value
args_from [] ds = []
args_from (p ∷ ps) ds = value_from p.of_type ds ∷ args_from ps (drop (value_length p.of_type) ds)

-- the byte whose six numbers come first: a part of a pointer where the kind is 1, else bits
abbrev pub byte_from : List ℕ → Byte
byte_from (suc zero ∷ mask ∷ number ∷ block ∷ offset ∷ part ∷ rest) = byte.Part (pointer_from block offset) part
byte_from (kind ∷ mask ∷ number ∷ rest) = byte.Bits number mask
byte_from _ = byte.Bits 0 0

abbrev pub places_from : ℕ → List ℕ → List Byte
places_from zero ds = []
places_from (suc room) ds = byte_from ds ∷ places_from room (drop 6 ds)

-- the given block of this number, with room for `room` bytes
abbrev pub block_from : ℕ → ℕ → ℕ → List ℕ → MemoryBlock
block_from room number size ds = record { name = Given number; size = size; align = 16; places = places_from room ds }

-- the given blocks of these sizes, from this number on
abbrev pub blocks_from : Layout → ℕ → List ℕ → List ℕ → List MemoryBlock
blocks_from layout number [] ds = []
blocks_from layout number (size ∷ sizes) ds = block_from layout.bytes number size ds ∷ blocks_from layout (number + 1) sizes (drop (layout.bytes * 6) ds)

-- ---- where there are numbers to read

-- there are six numbers, and a byte's mask and number and a part's index are below 2 ^ 8
pub record HasByte (ds : List ℕ) : Type 0 where
  pub six : 6 ≤ length ds
  pub mask : slice_index ds 1 < 2 ^ 8
  pub number : slice_index ds 2 < 2 ^ 8
  pub part : slice_index ds 5 < 2 ^ 8

-- `room` bytes
abbrev pub HaveBytes : ℕ → List ℕ → Type 0
HaveBytes zero ds = Unit {0}
HaveBytes (suc room) ds = HasByte ds × HaveBytes room (drop 6 ds)

pub record HasPlaces (room : ℕ) (ds : List ℕ) : Type 0 where
  pub enough : room * 6 ≤ length ds
  pub are_bytes : HaveBytes room ds

-- the contents of a given block for each size
abbrev pub HaveBlocks : Layout → List ℕ → List ℕ → Type 0
HaveBlocks layout [] ds = Unit {0}
HaveBlocks layout (size ∷ sizes) ds = HasPlaces layout.bytes ds × HaveBlocks layout sizes (drop (layout.bytes * 6) ds)
