-- What symbolic memory denotes under an assignment of the variables.
use Rattle.std.specs.Prelude.{◌≡◌, ℕ, zero, suc, ◌+◌, ◌<◌, true, Bool, cond, List, [], ◌∷◌, length, map}
use Rattle.byte_block.specs.declared.value.Ptr.{Ptr}
use Rattle.byte_block.specs.declared.value.Byte.{Byte}
use Rattle.byte_block.specs.declared.value.Byte.TheVariants.{Bits, Part}
use Rattle.byte_block.specs.declared.block.MemoryBlock.{MemoryBlock}
use Rattle.memory_access.specs.Bytes.{defined_bits}
use Rattle.points.specs.declared.point.Layout.{Layout}
use Rattle.bv_terms.specs.declared.term.Term.{Term}
use Rattle.bv_terms.specs.Trees.{IsTerm, bit_at, term_at}
use Rattle.mem_terms.specs.declared.bytes.SymByte.{SymByte}
use Rattle.mem_terms.specs.declared.blocks.SymBlock.{SymBlock}
use Rattle.mem_terms.specs.Values.{Each, Reading}

-- ---- bytes

-- a part of a pointer, or bits: what the number has in a bit of the mask has no meaning
abbrev pub byte_of : (is_part : Bool) → (mask number : ℕ) → Ptr → (part : ℕ) → Byte
byte_of is_part mask number pointer part = cond is_part (Part pointer part) (Bits (defined_bits number mask) mask)

unfoldable pub byte_at : Reading → List Term → SymByte → Byte
byte_at r terms b = byte_of (bit_at r.v terms b.is_part) (term_at r.v terms b.mask) (term_at r.v terms b.number) (record { block = r.name (term_at r.v terms b.block); offset = term_at r.v terms b.offset }) (term_at r.v terms b.part)

abbrev pub places_at : Reading → List Term → List SymByte → List Byte
places_at r terms places = map (byte_at r terms) places

pub record IsSymByte (terms : List Term) (b : SymByte) : Type 0 where
  pub is_part : IsTerm terms 1 b.is_part
  pub mask : IsTerm terms 8 b.mask
  pub number : IsTerm terms 8 b.number
  pub block : IsTerm terms 64 b.block
  pub offset : IsTerm terms 64 b.offset
  pub part : IsTerm terms 3 b.part

abbrev pub AreSymBytes : List Term → List SymByte → Type 0
AreSymBytes terms bytes = Each (IsSymByte terms) bytes

-- ---- blocks

unfoldable pub block_at : Reading → List Term → SymBlock → MemoryBlock
block_at r terms b = record { name = r.name b.number; size = term_at r.v terms b.size; align = b.align; places = places_at r terms b.places }

-- the blocks that exist, in order
unfoldable pub memory_at : Reading → List Term → List SymBlock → List MemoryBlock
memory_at r terms [] = []
memory_at r terms (b ∷ bs) = cond (bit_at r.v terms b.exists) (block_at r terms b ∷ memory_at r terms bs) (memory_at r terms bs)

-- 0 is the null block's number
pub record IsSymBlock (terms : List Term) (b : SymBlock) : Type 0 where
  pub numbered : 0 < b.number
  pub exists : IsTerm terms 1 b.exists
  pub size : IsTerm terms 64 b.size
  pub places : AreSymBytes terms b.places

abbrev pub AreSymBlocks : List Term → List SymBlock → Type 0
AreSymBlocks terms blocks = Each (IsSymBlock terms) blocks

-- ---- given blocks

-- what is known of a block without an assignment
pub record SymFrame : Type 0 where
  pub number : ℕ
  pub align : ℕ
  pub room : ℕ

abbrev pub frame_of : SymBlock → SymFrame
frame_of b = record { number = b.number; align = b.align; room = length b.places }

-- it exists in every run
abbrev pub IsAlways : List Term → SymBlock → Type 0
IsAlways terms b = (v : ℕ → ℕ → ℕ) → bit_at v terms b.exists ≡ true

-- `blocks` blocks with room for `bytes` bytes each, and the numbers from `first` on
abbrev pub given_frames : (first blocks bytes : ℕ) → List SymFrame
given_frames first zero bytes = []
given_frames first (suc n) bytes = record { number = first; align = 16; room = bytes } ∷ given_frames (first + 1) n bytes

-- the blocks of an input, with the numbers from 1 on
abbrev pub frames_of : Layout → List SymFrame
frames_of layout = given_frames 1 layout.blocks layout.bytes

-- blocks that exist in every run, of which this is known
pub record AreGivenBlocks (known : List SymFrame) (terms : List Term) (bs : List SymBlock) : Type 0 where
  pub are : AreSymBlocks terms bs
  pub always : Each (IsAlways terms) bs
  pub frames : map frame_of bs ≡ known
