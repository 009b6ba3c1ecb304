-- What comes next in the parts of a point.
use Rattle.std.specs.Prelude.{◌≡◌, ℕ, zero, suc, ◌+◌, ◌-◌, ◌*◌, ◌^◌, ◌<◌, ◌≤◌, List, [], ◌∷◌, length, map, drop, replicate}
use Rattle.std.specs.List.{flat_map}
use Rattle.ir_tree.specs.declared.tree.IrType.{IrType}
use Rattle.ir_tree.specs.declared.tree.IrType.TheVariants as type
use Rattle.ir_tree.specs.declared.tree.Parameter.{Parameter}
use Rattle.byte_block.specs.declared.value.BlockName.TheVariants.{Null}
use Rattle.byte_block.specs.declared.value.Value.{Value}
use Rattle.byte_block.specs.declared.value.Value.TheVariants as value
use Rattle.byte_block.specs.declared.value.Ptr.{Ptr}
use Rattle.byte_block.specs.declared.value.Byte.{Byte}
use Rattle.byte_block.specs.declared.value.Byte.TheVariants as byte
use Rattle.byte_block.specs.declared.block.MemoryBlock.{MemoryBlock}
use Rattle.points.specs.declared.point.Layout.{Layout}
use Rattle.points.specs.declared.point.Point.{Point}
use Rattle.points.specs.declared.point.Shape.{Shape}
use Rattle.points.specs.Code.{number_of, WordsFit, ValueFits, ArgsFit, ByteFits, BytesFit, BlocksFit, IsOfShape, name_digit, value_code, args_code, byte_code, places_code, place_of}
use Rattle.points.specs.Codes.{AreSizes}

-- a later list of the same number of words, and none between the two was left out
pub record IsNextWords (width : ℕ) (old new : List ℕ) : Type 0 where
  pub fits : WordsFit width (length old) new
  pub later : number_of old < number_of new
  pub no_gap : (words : List ℕ) → WordsFit width (length old) words → number_of words < number_of new → number_of words ≤ number_of old

abbrev pub IsLastWords : ℕ → List ℕ → Type 0
IsLastWords width old = (words : List ℕ) → WordsFit width (length old) words → number_of words ≤ number_of old

-- the values of a type are ordered by their codes
abbrev pub value_number : Layout → IrType → Value → ℕ
value_number layout t v = number_of (value_code layout t v)

pub record IsNextValue (layout : Layout) (t : IrType) (old new : Value) : Type 0 where
  pub fits : ValueFits layout t new
  pub later : value_number layout t old < value_number layout t new
  pub no_gap : (v : Value) → ValueFits layout t v → value_number layout t v < value_number layout t new → value_number layout t v ≤ value_number layout t old

abbrev pub IsLastValue : Layout → IrType → Value → Type 0
IsLastValue layout t old = (v : Value) → ValueFits layout t v → value_number layout t v ≤ value_number layout t old

abbrev pub args_number : Layout → List Parameter → List Value → ℕ
args_number layout ps vs = number_of (args_code layout ps vs)

pub record IsNextArgs (layout : Layout) (parameters : List Parameter) (old new : List Value) : Type 0 where
  pub fits : ArgsFit layout parameters new
  pub later : args_number layout parameters old < args_number layout parameters new
  pub no_gap : (args : List Value) → ArgsFit layout parameters args → args_number layout parameters args < args_number layout parameters new → args_number layout parameters args ≤ args_number layout parameters old

abbrev pub IsLastArgs : Layout → List Parameter → List Value → Type 0
IsLastArgs layout parameters old = (args : List Value) → ArgsFit layout parameters args → args_number layout parameters args ≤ args_number layout parameters old

-- the least value of a type
abbrev pub least_value : IrType → Value
least_value (type.Int width) = value.Num 0
least_value type.Ptr = value.Ptr (record { block = Null; offset = 0 })

-- the arguments with the least values from an index on
abbrev pub least_from : List Parameter → ℕ → List Value → List Value
least_from [] n vs = vs
least_from (p ∷ ps) n [] = []
least_from (p ∷ ps) zero (v ∷ vs) = least_value p.of_type ∷ least_from ps zero vs
least_from (p ∷ ps) (suc n) (v ∷ vs) = v ∷ least_from ps n vs

-- a pointer's block and offset as one number
abbrev pub pointer_number : Layout → Ptr → ℕ
pointer_number layout p = name_digit layout p.block * 2 ^ 64 + p.offset

-- bytes are ordered by their codes too
abbrev pub byte_number : Layout → Byte → ℕ
byte_number layout b = number_of (byte_code layout b)

pub record IsNextByte (layout : Layout) (old new : Byte) : Type 0 where
  pub fits : ByteFits layout new
  pub later : byte_number layout old < byte_number layout new
  pub no_gap : (b : Byte) → ByteFits layout b → byte_number layout b < byte_number layout new → byte_number layout b ≤ byte_number layout old

abbrev pub IsLastByte : Layout → Byte → Type 0
IsLastByte layout old = (b : Byte) → ByteFits layout b → byte_number layout b ≤ byte_number layout old

-- the contents of a block of this size that has room for `bytes` bytes: those past its size are the number 0
pub record PlacesFit (layout : Layout) (bytes size : ℕ) (places : List Byte) : Type 0 where
  pub room : length places ≡ bytes
  pub past : drop size places ≡ replicate (bytes - size) (byte.Bits 0 0)
  pub fit : BytesFit layout places

abbrev pub places_number : Layout → List Byte → ℕ
places_number layout places = number_of (flat_map (byte_code layout) places)

pub record IsNextPlaces (layout : Layout) (bytes size : ℕ) (old new : List Byte) : Type 0 where
  pub fits : PlacesFit layout bytes size new
  pub later : places_number layout old < places_number layout new
  pub no_gap : (places : List Byte) → PlacesFit layout bytes size places → places_number layout places < places_number layout new → places_number layout places ≤ places_number layout old

abbrev pub IsLastPlaces : Layout → ℕ → ℕ → List Byte → Type 0
IsLastPlaces layout bytes size old = (places : List Byte) → PlacesFit layout bytes size places → places_number layout places ≤ places_number layout old

-- ---- the given blocks

abbrev pub sizes_in : List MemoryBlock → List ℕ
sizes_in bs = map (λ (b : MemoryBlock). b.size) bs

abbrev pub memory_number : Layout → List MemoryBlock → ℕ
memory_number layout bs = number_of (flat_map (places_code layout) bs)

-- the given blocks with later contents and the same sizes, and none between the two was left out
pub record IsNextMemory (layout : Layout) (old new : List MemoryBlock) : Type 0 where
  pub fits : BlocksFit layout 1 new
  pub sizes : sizes_in new ≡ sizes_in old
  pub later : memory_number layout old < memory_number layout new
  pub no_gap : (bs : List MemoryBlock) → BlocksFit layout 1 bs → sizes_in bs ≡ sizes_in old → memory_number layout bs < memory_number layout new → memory_number layout bs ≤ memory_number layout old

abbrev pub IsLastMemory : Layout → List MemoryBlock → Type 0
IsLastMemory layout old = (bs : List MemoryBlock) → BlocksFit layout 1 bs → sizes_in bs ≡ sizes_in old → memory_number layout bs ≤ memory_number layout old

-- later sizes, none left out, and the least contents for these sizes
pub record IsNextSizes (layout : Layout) (old new : List MemoryBlock) : Type 0 where
  pub fits : BlocksFit layout 1 new
  pub later : number_of (sizes_in old) < number_of (sizes_in new)
  pub no_gap : (sizes : List ℕ) → AreSizes layout (length old) sizes → number_of sizes < number_of (sizes_in new) → number_of sizes ≤ number_of (sizes_in old)
  pub least : memory_number layout new ≡ 0

abbrev pub AreLastSizes : Layout → List MemoryBlock → Type 0
AreLastSizes layout old = (sizes : List ℕ) → AreSizes layout (length old) sizes → number_of sizes ≤ number_of (sizes_in old)

-- the least given blocks
pub record AreLeastBlocks (layout : Layout) (new : List MemoryBlock) : Type 0 where
  pub fits : BlocksFit layout 1 new
  pub sizes : number_of (sizes_in new) ≡ 0
  pub places : memory_number layout new ≡ 0

-- a list with the items from an index on changed
abbrev pub from_place : {A : Type 0} → (A → A) → ℕ → List A → List A
from_place f n [] = []
from_place f zero (x ∷ xs) = f x ∷ from_place f zero xs
from_place f (suc n) (x ∷ xs) = x ∷ from_place f n xs

abbrev pub zero_byte : Byte → Byte
zero_byte b = byte.Bits 0 0

-- the block with zeros as its contents
abbrev pub zero_places : MemoryBlock → MemoryBlock
zero_places b = record b { places = from_place zero_byte 0 b.places }

-- the block with size 0, its contents unchanged
abbrev pub zero_size : MemoryBlock → MemoryBlock
zero_size b = record b { size = 0 }

-- ---- points

abbrev pub place_in_shape : Shape → Point → ℕ
place_in_shape s p = place_of s.layout s.parameters p

-- a later point of the shape, and none between the two was left out
pub record IsNextPoint (s : Shape) (old new : Point) : Type 0 where
  pub fits : IsOfShape s new
  pub later : place_in_shape s old < place_in_shape s new
  pub no_gap : (p : Point) → IsOfShape s p → place_in_shape s p < place_in_shape s new → place_in_shape s p ≤ place_in_shape s old

abbrev pub IsLastPoint : Shape → Point → Type 0
IsLastPoint s old = (p : Point) → IsOfShape s p → place_in_shape s p ≤ place_in_shape s old
