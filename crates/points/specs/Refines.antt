-- Which outcomes of the target an outcome of the source allows (refinement as Alive2 defines it: Lopes, Lee, Hur, Liu, Regehr, "Alive2: Bounded Translation Validation for LLVM", PLDI 2021).
use Rattle.std.specs.Prelude.{ℕ, Bool, true, false, ◌&&◌, nat_eq, List, [], ◌∷◌, Option, Some, None}
use Rattle.byte_block.specs.declared.value.Value.{Value}
use Rattle.byte_block.specs.declared.value.Value.TheVariants as value
use Rattle.byte_block.specs.declared.value.BlockName.{BlockName}
use Rattle.byte_block.specs.declared.value.BlockName.TheVariants.{Local}
use Rattle.byte_block.specs.declared.value.Byte.{Byte}
use Rattle.byte_block.specs.declared.value.Byte.TheVariants as byte
use Rattle.byte_block.specs.declared.block.MemoryBlock.{MemoryBlock}
use Rattle.memory_access.specs.Blocks.{equal_names, block_bytes}
use Rattle.memory_access.specs.Bytes.{defined_bits}
use Rattle.points.specs.declared.outcome.Outcome.{Outcome}
use Rattle.points.specs.declared.outcome.Outcome.TheVariants.{Return, Ub, Beyond}

-- two pointers after the run: one to a local block is dead, and all dead ones are equal
abbrev pub same_pointer : BlockName → ℕ → BlockName → ℕ → Bool
same_pointer (Local turn place) offset (Local turn' place') offset' = true
same_pointer name offset name' offset' = equal_names name name' && nat_eq offset offset'

-- the source's value comes first
abbrev pub value_allows : Value → Value → Bool
value_allows value.Poison t = true
value_allows (value.Num a) (value.Num b) = nat_eq a b
value_allows (value.Ptr p) (value.Ptr q) = same_pointer p.block p.offset q.block q.offset
value_allows _ _ = false

-- bits allow bits that are the same outside the source's mask, with a mask within it, and where all of them are poison also a part
abbrev pub byte_allows : Byte → Byte → Bool
byte_allows (byte.Bits a m) (byte.Bits b n) = nat_eq (defined_bits n m) 0 && nat_eq (defined_bits a m) (defined_bits b m)
byte_allows (byte.Bits a m) (byte.Part q j) = nat_eq m 255
byte_allows (byte.Part p i) (byte.Part q j) = same_pointer p.block p.offset q.block q.offset && nat_eq i j
byte_allows (byte.Part p i) (byte.Bits b n) = false

-- two lists of the same length, whose items pass the test at each index
unfoldable pub pairs_pass : {A : Type 0} → (A → A → Bool) → List A → List A → Bool
pairs_pass test [] [] = true
pairs_pass test (s ∷ ss) (t ∷ ts) = test s t && pairs_pass test ss ts
pairs_pass test _ _ = false

abbrev pub block_allows : MemoryBlock → MemoryBlock → Bool
block_allows s t = equal_names s.name t.name && nat_eq s.size t.size && pairs_pass byte_allows (block_bytes s) (block_bytes t)

-- the given blocks of a return, in order
abbrev pub blocks_allow : List MemoryBlock → List MemoryBlock → Bool
blocks_allow ss ts = pairs_pass block_allows ss ts

abbrev pub returned_allows : Option Value → Option Value → Bool
returned_allows None None = true
returned_allows (Some s) (Some t) = value_allows s t
returned_allows _ _ = false

-- the source's outcome comes first, and the first case that fits decides
abbrev pub is_refined : Outcome → Outcome → Bool
is_refined s Beyond = true
is_refined Ub t = true
is_refined Beyond t = true
is_refined (Return v m) Ub = false
is_refined (Return v m) (Return w n) = returned_allows v w && blocks_allow m n
