-- Which lists of numbers are codes of a shape. It speaks of numbers only, not of points.
use Rattle.std.specs.Prelude.{◌≡◌, ◌⊎◌, ℕ, zero, suc, ◌^◌, ◌<◌, ◌≤◌, bit_and, List, [], ◌∷◌, ◌++◌}
use Rattle.ir_tree.specs.declared.tree.IrType.{IrType}
use Rattle.ir_tree.specs.declared.tree.IrType.TheVariants.{Int, Ptr}
use Rattle.ir_tree.specs.declared.tree.Parameter.{Parameter}
use Rattle.points.specs.declared.point.Layout.{Layout}
use Rattle.points.specs.declared.point.Shape.{Shape}
use Rattle.points.specs.Code.{WordsFit}

-- a prefix in P, and after it a rest that Q allows for this prefix
pub record IsChain (P : List ℕ → Type 0) (Q : List ℕ → List ℕ → Type 0) (ds : List ℕ) : Type 0 where
  pub front : List ℕ
  pub back : List ℕ
  pub whole : ds ≡ front ++ back
  pub in_front : P front
  pub in_back : Q front back

-- ---- arguments

-- the flag 0 and a number of the width
pub record IsNumberOf (width : ℕ) (ds : List ℕ) : Type 0 where
  pub number : ℕ
  pub is : ds ≡ 0 ∷ number ∷ []
  pub small : number < 2 ^ width

-- the flag 0, a block, which is 0 for null, and an offset
pub record IsPointerAmong (layout : Layout) (ds : List ℕ) : Type 0 where
  pub block : ℕ
  pub offset : ℕ
  pub is : ds ≡ 0 ∷ block ∷ offset ∷ []
  pub given : block ≤ layout.blocks
  pub small : offset < 2 ^ 64

-- a number or a pointer, or poison: the flag 1 and zeros
abbrev pub IsCodeOfValue : Layout → IrType → List ℕ → Type 0
IsCodeOfValue layout (Int width) ds = IsNumberOf width.bits ds ⊎ (ds ≡ 1 ∷ 0 ∷ [])
IsCodeOfValue layout Ptr ds = IsPointerAmong layout ds ⊎ (ds ≡ 1 ∷ 0 ∷ 0 ∷ [])

-- a value's numbers for each parameter
abbrev pub IsCodeOfArgs : Layout → List Parameter → List ℕ → Type 0
IsCodeOfArgs layout [] ds = ds ≡ []
IsCodeOfArgs layout (p ∷ ps) ds = IsChain (IsCodeOfValue layout p.of_type) (λ value rest. IsCodeOfArgs layout ps rest) ds

-- ---- given blocks

-- n sizes, each at most the layout's number of bytes
abbrev pub AreSizes : Layout → ℕ → List ℕ → Type 0
AreSizes layout zero [] = Unit {0}
AreSizes layout (suc n) (size ∷ sizes) = (size ≤ layout.bytes) × AreSizes layout n sizes
AreSizes layout zero (size ∷ sizes) = ⊥
AreSizes layout (suc n) [] = ⊥

-- the kind 0 and a number below 256
pub record IsNumberByte (ds : List ℕ) : Type 0 where
  pub number : ℕ
  pub is : ds ≡ 0 ∷ 0 ∷ number ∷ 0 ∷ 0 ∷ 0 ∷ []
  pub small : number < 2 ^ 8

-- the kind 1, a pointer's block and offset, and which of its eight parts
pub record IsPartByte (layout : Layout) (ds : List ℕ) : Type 0 where
  pub block : ℕ
  pub offset : ℕ
  pub part : ℕ
  pub is : ds ≡ 1 ∷ 0 ∷ 0 ∷ block ∷ offset ∷ part ∷ []
  pub given : block ≤ layout.blocks
  pub small : offset < 2 ^ 64
  pub of_eight : part ≤ 7

-- the kind 2, a mask above 0, and a number that has no bit of the mask
pub record IsPoisonByte (ds : List ℕ) : Type 0 where
  pub mask : ℕ
  pub number : ℕ
  pub is : ds ≡ 2 ∷ mask ∷ number ∷ 0 ∷ 0 ∷ 0 ∷ []
  pub some : 0 < mask
  pub within : mask < 2 ^ 8
  pub small : number < 2 ^ 8
  pub apart : bit_and number mask ≡ 0

-- a number, a part of a pointer, or bits of which some are poison
abbrev pub IsCodeOfByte : Layout → List ℕ → Type 0
IsCodeOfByte layout ds = IsNumberByte ds ⊎ (IsPartByte layout ds ⊎ IsPoisonByte ds)

-- the six numbers of an index past a block's size
abbrev pub IsUnused : List ℕ → Type 0
IsUnused ds = ds ≡ 0 ∷ 0 ∷ 0 ∷ 0 ∷ 0 ∷ 0 ∷ []

-- the contents of a block with room for this number of bytes: bytes before the size, and unused indices from there on
abbrev pub IsCodeOfPlaces : Layout → ℕ → ℕ → List ℕ → Type 0
IsCodeOfPlaces layout zero size ds = ds ≡ []
IsCodeOfPlaces layout (suc room) zero ds = IsChain IsUnused (λ place rest. IsCodeOfPlaces layout room zero rest) ds
IsCodeOfPlaces layout (suc room) (suc size) ds = IsChain (IsCodeOfByte layout) (λ place rest. IsCodeOfPlaces layout room size rest) ds

-- the contents of the given blocks, whose sizes these are
abbrev pub IsCodeOfBlocks : Layout → List ℕ → List ℕ → Type 0
IsCodeOfBlocks layout [] ds = ds ≡ []
IsCodeOfBlocks layout (size ∷ sizes) ds = IsChain (IsCodeOfPlaces layout layout.bytes size) (λ block rest. IsCodeOfBlocks layout sizes rest) ds

-- ---- the whole

-- the arguments, the sizes of the given blocks, the contents of blocks of these sizes, and the tape
abbrev pub IsCode : Shape → List ℕ → Type 0
IsCode s = IsChain (IsCodeOfArgs s.layout s.parameters) (λ args. IsChain (AreSizes s.layout s.layout.blocks) (λ sizes. IsChain (IsCodeOfBlocks s.layout sizes) (λ places. WordsFit s.word_width.bits s.words)))
