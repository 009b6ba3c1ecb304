-- What the terms of an input and of a tape denote under an assignment of the variables.
use Rattle.std.specs.Prelude.{◌≡◌, ℕ, ◌+◌, true, nat_eq, List, [], ◌∷◌, length, map}
use Rattle.ir_tree.specs.declared.tree.IrType.{IrType}
use Rattle.ir_tree.specs.declared.tree.IrType.TheVariants as type
use Rattle.ir_tree.specs.declared.tree.Parameter.{Parameter}
use Rattle.byte_block.specs.declared.value.Value.{Value}
use Rattle.byte_block.specs.declared.value.Byte.{Byte}
use Rattle.byte_block.specs.declared.block.MemoryBlock.{MemoryBlock}
use Rattle.points.specs.declared.point.Input.{Input}
use Rattle.points.specs.declared.point.Layout.{Layout}
use Rattle.bv_terms.specs.declared.term.TermId.{TermId}
use Rattle.bv_terms.specs.declared.term.Term.{Term}
use Rattle.bv_terms.specs.Trees.{IsTerm, bit_at, term_at}
use Rattle.mem_terms.specs.declared.inputs.ArgTerms.{ArgTerms}
use Rattle.mem_terms.specs.declared.inputs.ArgTerms.TheVariants as arg
use Rattle.mem_terms.specs.declared.inputs.ByteTerms.{ByteTerms}
use Rattle.mem_terms.specs.declared.inputs.InputTerms.{InputTerms}
use Rattle.mem_terms.specs.Values.{Each, Reading, value_from, value_of}
use Rattle.mem_terms.specs.Memory.{byte_of}

-- ---- arguments

abbrev pub arg_at : Reading → List Term → ArgTerms → Value
arg_at r terms (arg.Int flag number) = value_from (bit_at r.v terms flag) (term_at r.v terms number)
arg_at r terms (arg.Ptr flag block offset) = value_of (bit_at r.v terms flag) true (r.name (term_at r.v terms block)) (term_at r.v terms offset)

abbrev pub args_at : Reading → List Term → List ArgTerms → List Value
args_at r terms args = map (arg_at r terms) args

-- a flag and a number of the width, or a flag, one of eight blocks and an offset
abbrev pub IsArg : List Term → IrType → ArgTerms → Type 0
IsArg terms (type.Int width) (arg.Int flag number) = IsTerm terms 1 flag × IsTerm terms width.bits number
IsArg terms type.Ptr (arg.Ptr flag block offset) = IsTerm terms 1 flag × IsTerm terms 3 block × IsTerm terms 64 offset
IsArg terms _ _ = ⊥

-- one for each parameter
abbrev pub AreArgs : List Term → List Parameter → List ArgTerms → Type 0
AreArgs terms [] [] = Unit {0}
AreArgs terms (p ∷ ps) (a ∷ rest) = IsArg terms p.of_type a × AreArgs terms ps rest
AreArgs terms [] (a ∷ rest) = ⊥
AreArgs terms (p ∷ ps) [] = ⊥

-- ---- given blocks

-- the kind 1 is a part of a pointer, and any other is bits
unfoldable pub given_byte_at : Reading → List Term → ByteTerms → Byte
given_byte_at r terms b = byte_of (nat_eq (term_at r.v terms b.kind) 1) (term_at r.v terms b.mask) (term_at r.v terms b.number) (record { block = r.name (term_at r.v terms b.block); offset = term_at r.v terms b.offset }) (term_at r.v terms b.part)

abbrev pub given_block_at : Reading → List Term → (number : ℕ) → TermId → List ByteTerms → MemoryBlock
given_block_at r terms number size places = record { name = r.name number; size = term_at r.v terms size; align = 16; places = map (given_byte_at r terms) places }

-- the blocks of these sizes and contents, the first of them with this number
abbrev pub given_blocks_at : Reading → List Term → (number : ℕ) → List TermId → List (List ByteTerms) → List MemoryBlock
given_blocks_at r terms number (size ∷ sizes) (places ∷ rest) = given_block_at r terms number size places ∷ given_blocks_at r terms (number + 1) sizes rest
given_blocks_at r terms number _ _ = []

abbrev pub input_at : Reading → List Term → InputTerms → Input
input_at r terms input = record { args = args_at r terms input.args; blocks = given_blocks_at r terms 1 input.sizes input.places }

-- a byte has a kind below 4, a mask and a number below 256, a block below 8, an offset, and one of eight parts
pub record IsByteTerms (terms : List Term) (b : ByteTerms) : Type 0 where
  pub kind : IsTerm terms 2 b.kind
  pub mask : IsTerm terms 8 b.mask
  pub number : IsTerm terms 8 b.number
  pub block : IsTerm terms 3 b.block
  pub offset : IsTerm terms 64 b.offset
  pub part : IsTerm terms 3 b.part

-- `bytes` bytes
pub record IsBlockTerms (bytes : ℕ) (terms : List Term) (places : List ByteTerms) : Type 0 where
  pub count : length places ≡ bytes
  pub are : Each (IsByteTerms terms) places

-- ---- the whole input

-- an argument for each parameter, and for each of the given blocks a size, below 64, and its contents
pub record IsInput (ps : List Parameter) (layout : Layout) (terms : List Term) (input : InputTerms) : Type 0 where
  pub args : AreArgs terms ps input.args
  pub size_count : length input.sizes ≡ layout.blocks
  pub sizes : Each (IsTerm terms 6) input.sizes
  pub block_count : length input.places ≡ layout.blocks
  pub places : Each (IsBlockTerms layout.bytes terms) input.places

-- ---- tapes

abbrev pub words_at : (ℕ → ℕ → ℕ) → List Term → List TermId → List ℕ
words_at v terms words = map (term_at v terms) words

abbrev pub AreWords : List Term → List TermId → Type 0
AreWords terms words = Each (IsTerm terms 64) words
