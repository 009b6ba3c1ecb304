-- How the outcome of the target differs from the source's (refinement as in `points`, `Refines`).
use Rattle.std.specs.Prelude.{◌≡◌, ◌≢◌, ℕ, Bool, true, false, ◌&&◌, nat_eq, List, length, take, Option, Some, IsSomeAnd, slice_get}
use Rattle.byte_block.specs.declared.value.Value.{Value}
use Rattle.byte_block.specs.declared.value.Value.TheVariants as value
use Rattle.byte_block.specs.declared.value.Byte.{Byte}
use Rattle.byte_block.specs.declared.block.MemoryBlock.{MemoryBlock}
use Rattle.memory_access.specs.Blocks.{equal_names, block_bytes}
use Rattle.points.specs.declared.outcome.Outcome.{Outcome}
use Rattle.points.specs.declared.outcome.Outcome.TheVariants.{Return, Ub}
use Rattle.points.specs.Refines.{byte_allows, pairs_pass, returned_allows}
use Rattle.pair_trace.specs.declared.differences.Difference.{Difference}
use Rattle.pair_trace.specs.declared.differences.Difference.TheVariants as difference

-- ---- what is returned

abbrev pub IsReturnDifference : Option Value → Option Value → Difference → Type 0
IsReturnDifference s t difference.MorePoisonous = (returned_allows s t ≡ false) × (t ≡ Some value.Poison)
IsReturnDifference s t difference.Value = (returned_allows s t ≡ false) × (t ≢ Some value.Poison)
IsReturnDifference s t _ = ⊥

-- ---- memory

-- the byte at this index is not allowed, and all before it are
pub record IsOtherByte (ss ts : List Byte) (k : ℕ) : Type 0 where
  pub before : pairs_pass byte_allows (take k ss) (take k ts) ≡ true
  pub other : IsSomeAnd (slice_get ss k) (λ s. IsSomeAnd (slice_get ts k) (λ t. byte_allows s t ≡ false))

-- the same name, size and number of bytes
abbrev pub same_shape : MemoryBlock → MemoryBlock → Bool
same_shape s t = equal_names s.name t.name && nat_eq s.size t.size && nat_eq (length (block_bytes s)) (length (block_bytes t))

-- of the blocks at this index
abbrev pub IsBlockDifference : ℕ → MemoryBlock → MemoryBlock → Difference → Type 0
IsBlockDifference i s t (difference.Block index) = (index ≡ i) × (same_shape s t ≡ false)
IsBlockDifference i s t (difference.Byte index byte) = (index ≡ i) × IsOtherByte (block_bytes s) (block_bytes t) byte
IsBlockDifference i s t _ = ⊥

-- of the blocks at some index
abbrev pub IsDifferenceAt : ℕ → List MemoryBlock → List MemoryBlock → Difference → Type 0
IsDifferenceAt i ss ts d = IsSomeAnd (slice_get ss i) (λ s. IsSomeAnd (slice_get ts i) (λ t. IsBlockDifference i s t d))

abbrev pub IsMemoryDifference : List MemoryBlock → List MemoryBlock → Difference → Type 0
IsMemoryDifference ss ts difference.Blocks = length ss ≢ length ts
IsMemoryDifference ss ts (difference.Block index) = IsDifferenceAt index ss ts (difference.Block index)
IsMemoryDifference ss ts (difference.Byte index byte) = IsDifferenceAt index ss ts (difference.Byte index byte)
IsMemoryDifference ss ts _ = ⊥

-- ---- outcomes

abbrev pub IsDifference : Outcome → Outcome → Difference → Type 0
IsDifference (Return v m) Ub d = d ≡ difference.Undefined
IsDifference (Return v m) (Return w n) difference.MorePoisonous = IsReturnDifference v w difference.MorePoisonous
IsDifference (Return v m) (Return w n) difference.Value = IsReturnDifference v w difference.Value
IsDifference (Return v m) (Return w n) d = (returned_allows v w ≡ true) × IsMemoryDifference m n d
IsDifference _ _ d = ⊥
