-- Two memories that are joined block by block.
use Rattle.std.specs.Prelude.{ℕ, ◌≡◌, ◌<◌, ◌≤◌, cond, List, [], ◌∷◌, ◌++◌, get_or, length, take}
use Rattle.byte_block.specs.declared.block.MemoryBlock.{MemoryBlock}
use Rattle.bv_terms.specs.declared.term.TermId.{TermId}
use Rattle.bv_terms.specs.declared.term.Term.{Term}
use Rattle.bv_terms.specs.Trees.{bit_at}
use Rattle.mem_terms.specs.declared.blocks.SymBlock.{SymBlock}
use Rattle.mem_terms.specs.Values.{Each, Reading}
use Rattle.mem_terms.specs.Memory.{block_at, memory_at}
use Rattle.access_terms.specs.declared.joining.Joined.{Joined}
use Rattle.access_terms.specs.declared.joining.Next.{Next}
use Rattle.access_terms.specs.declared.joining.Next.TheVariants as next

-- one block's part of a memory
abbrev pub part_at : Reading → List Term → SymBlock → List MemoryBlock
part_at r terms b = cond (bit_at r.v terms b.exists) (block_at r terms b ∷ []) []

-- two blocks that differ at most in whether they exist, their size and their bytes
pub record AreAlike (a b : SymBlock) : Type 0 where
  pub number : a.number ≡ b.number
  pub align : a.align ≡ b.align
  pub places : length b.places ≡ length a.places

-- one more block, with this number
abbrev pub IsGrown : (old new : List SymBlock) → (number : ℕ) → Type 0
IsGrown old new number = (b : SymBlock) × (new ≡ old ++ b ∷ []) × (b.number ≡ number)

abbrev pub AreAbove : ℕ → List SymBlock → Type 0
AreAbove most blocks = Each (λ (b : SymBlock). most < b.number) blocks

pub record IsUpTo (a b : List SymBlock) (joined : Joined) : Type 0 where
  pub first : joined.first ≤ length a
  pub second : joined.second ≤ length b

-- the block there is one of the memory, and of both only where they are alike
abbrev pub IsNext : List SymBlock → List SymBlock → Joined → Next → Type 0
IsNext a b joined next.First = joined.first < length a
IsNext a b joined next.Second = joined.second < length b
IsNext a b joined next.Both = (joined.first < length a) × (joined.second < length b)
    × ((x y : SymBlock) → x ≡ get_or a joined.first x → y ≡ get_or b joined.second y → AreAlike x y)

-- what is picked is the one or the other, as far as they are joined
abbrev pub IsJoined : Reading → (old new : List Term) → TermId → (a b : List SymBlock) → Joined → List SymBlock → Type 0
IsJoined r old new c a b joined picked =
    memory_at r new picked
    ≡ cond (bit_at r.v old c) (memory_at r old (take joined.first a)) (memory_at r old (take joined.second b))
