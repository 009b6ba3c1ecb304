-- The code of a point: a list of numbers below 2 ^ 64 of a length that the shape fixes. Points are ordered by their codes, the first number most significant.
use Rattle.std.specs.Prelude.{◌≡◌, ℕ, zero, suc, ◌+◌, ◌-◌, ◌*◌, ◌^◌, ◌<◌, ◌≤◌, nat_eq, if◌then◌else◌, bit_and, List, [], ◌∷◌, ◌++◌, length, map, drop, replicate}
use Rattle.std.specs.List.{flat_map}
use Rattle.ir_tree.specs.declared.tree.IrType.{IrType}
use Rattle.ir_tree.specs.declared.tree.IrType.TheVariants as type
use Rattle.ir_tree.specs.declared.tree.Parameter.{Parameter}
use Rattle.byte_block.specs.declared.value.Value.{Value}
use Rattle.byte_block.specs.declared.value.Value.TheVariants as value
use Rattle.byte_block.specs.declared.value.Ptr.{Ptr}
use Rattle.byte_block.specs.declared.value.BlockName.{BlockName}
use Rattle.byte_block.specs.declared.value.BlockName.TheVariants.{Null, Given, Local}
use Rattle.byte_block.specs.declared.value.Byte.{Byte}
use Rattle.byte_block.specs.declared.value.Byte.TheVariants as byte
use Rattle.byte_block.specs.declared.block.MemoryBlock.{MemoryBlock}
use Rattle.points.specs.Run.{block_number}
use Rattle.points.specs.declared.point.Layout.{Layout}
use Rattle.points.specs.declared.point.Point.{Point}
use Rattle.points.specs.declared.point.Shape.{Shape}

-- a list of numbers below 2 ^ 64 as the digits of one number in base 2 ^ 64, the first most significant
unfoldable pub number_of : List ℕ → ℕ
number_of [] = 0
number_of (d ∷ ds) = d * (2 ^ 64) ^ length ds + number_of ds

-- ---- the values of a shape

-- without given blocks
abbrev pub no_blocks : Layout
no_blocks = record { blocks = 0; bytes = 0 }

-- null, or a given block
abbrev pub BlockFits : Layout → BlockName → Type 0
BlockFits layout Null = Unit {0}
BlockFits layout (Given number) = (1 ≤ number) × (number ≤ layout.blocks)
BlockFits layout (Local turn place) = ⊥

pub record PointerFits (layout : Layout) (p : Ptr) : Type 0 where
  pub block : BlockFits layout p.block
  pub offset : p.offset < 2 ^ 64

abbrev pub ValueFits : Layout → IrType → Value → Type 0
ValueFits layout (type.Int width) (value.Num n) = n < 2 ^ width.bits
ValueFits layout (type.Int width) value.Poison = Unit {0}
ValueFits layout (type.Int width) (value.Ptr p) = ⊥
ValueFits layout type.Ptr (value.Num n) = ⊥
ValueFits layout type.Ptr value.Poison = Unit {0}
ValueFits layout type.Ptr (value.Ptr p) = PointerFits layout p

-- one argument for each parameter
abbrev pub ArgsFit : Layout → List Parameter → List Value → Type 0
ArgsFit layout [] [] = Unit {0}
ArgsFit layout (p ∷ ps) (v ∷ vs) = ValueFits layout p.of_type v × ArgsFit layout ps vs
ArgsFit layout [] (v ∷ vs) = ⊥
ArgsFit layout (p ∷ ps) [] = ⊥

abbrev pub ByteFits : Layout → Byte → Type 0
ByteFits layout (byte.Bits number mask) = (number < 2 ^ 8) × (mask < 2 ^ 8) × (bit_and number mask ≡ 0)
ByteFits layout (byte.Part p i) = PointerFits layout p × (i ≤ 7)

abbrev pub BytesFit : Layout → List Byte → Type 0
BytesFit layout [] = Unit {0}
BytesFit layout (b ∷ bs) = ByteFits layout b × BytesFit layout bs

-- the given block of this number: its size is at most the layout's number of bytes, it has room for that many, and those past its size are the number 0
pub record IsGivenBlock (layout : Layout) (number : ℕ) (block : MemoryBlock) : Type 0 where
  pub named : block.name ≡ Given number
  pub aligned : block.align ≡ 16
  pub small : block.size ≤ layout.bytes
  pub room : length block.places ≡ layout.bytes
  pub past : drop block.size block.places ≡ replicate (layout.bytes - block.size) (byte.Bits 0 0)
  pub fit : BytesFit layout block.places

-- the given blocks from this number on
abbrev pub BlocksFit : Layout → ℕ → List MemoryBlock → Type 0
BlocksFit layout number [] = number ≡ layout.blocks + 1
BlocksFit layout number (b ∷ bs) = IsGivenBlock layout number b × BlocksFit layout (number + 1) bs

-- n words, each below 2 ^ width
abbrev pub WordsFit : ℕ → ℕ → List ℕ → Type 0
WordsFit width zero [] = Unit {0}
WordsFit width (suc n) (w ∷ ws) = (w < 2 ^ width) × WordsFit width n ws
WordsFit width zero (w ∷ ws) = ⊥
WordsFit width (suc n) [] = ⊥

pub record IsOfShape (s : Shape) (p : Point) : Type 0 where
  pub args : ArgsFit s.layout s.parameters p.input.args
  pub given : BlocksFit s.layout 1 p.input.blocks
  pub tape : WordsFit s.word_width.bits s.words p.tape

-- ---- their code

-- the block of a pointer as a number
abbrev pub name_digit : Layout → BlockName → ℕ
name_digit layout name = block_number name

-- a flag, which is 1 for poison, and the number, or the block and the offset; what isn't used is 0
abbrev pub value_code : Layout → IrType → Value → List ℕ
value_code layout (type.Int width) (value.Num n) = 0 ∷ n ∷ []
value_code layout (type.Int width) _ = 1 ∷ 0 ∷ []
value_code layout type.Ptr (value.Ptr p) = 0 ∷ name_digit layout p.block ∷ p.offset ∷ []
value_code layout type.Ptr _ = 1 ∷ 0 ∷ 0 ∷ []

abbrev pub args_code : Layout → List Parameter → List Value → List ℕ
args_code layout (p ∷ ps) (v ∷ vs) = value_code layout p.of_type v ++ args_code layout ps vs
args_code layout _ _ = []

-- the kind, the mask, the number, the pointer's block and offset, and the part's index; what isn't used is 0. Bits without poison have the kind 0, a part of a pointer 1, and bits with poison 2
abbrev pub byte_code : Layout → Byte → List ℕ
byte_code layout (byte.Bits number mask) = (if nat_eq mask 0 then 0 else 2) ∷ mask ∷ number ∷ 0 ∷ 0 ∷ 0 ∷ []
byte_code layout (byte.Part p i) = 1 ∷ 0 ∷ 0 ∷ name_digit layout p.block ∷ p.offset ∷ i ∷ []

-- a block's contents, past its size too
abbrev pub places_code : Layout → MemoryBlock → List ℕ
places_code layout b = flat_map (byte_code layout) b.places

-- the sizes of all blocks come before their contents
abbrev pub blocks_code : Layout → List MemoryBlock → List ℕ
blocks_code layout bs = map (λ (b : MemoryBlock). b.size) bs ++ flat_map (places_code layout) bs

-- the arguments, the given blocks, and the tape
abbrev pub code_of : Layout → List Parameter → Point → List ℕ
code_of layout parameters p = args_code layout parameters p.input.args ++ (blocks_code layout p.input.blocks ++ p.tape)

-- the position of the point in the order
abbrev pub place_of : Layout → List Parameter → Point → ℕ
place_of layout parameters p = number_of (code_of layout parameters p)
