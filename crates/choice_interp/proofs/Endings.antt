-- A memory allows itself, and an ending once local blocks are freed.
use Rattle.choice_interp.proofs.Common.{◌≡◌, List, true, refl, sym, ap, eq-eqb, ℕ, filter, Null, Given, Local, MemoryBlock, equal_names, block_bytes, Machine, is_given, Ending, left_by}
use Rattle.byte_block.specs.declared.value.BlockName.{BlockName}
use Rattle.byte_block.specs.declared.value.Byte.{Byte}
use Rattle.byte_block.specs.declared.value.Byte.TheVariants as byte
use Rattle.points.specs.Refines.{same_pointer, byte_allows, block_allows, blocks_allow}
use Rattle.points.proofs.Allowed.{pairs_pass-same}
use Rattle.memory_access.specs.Bytes.{defined_bits}
use Rattle.memory_access.proofs.Masks.{defined-own}
use Rattle.choice_interp.specs.Ran.{run_with}

equal_names-same : (b : BlockName) → equal_names b b ≡ true
equal_names-same Null = refl
equal_names-same (Given i) = eq-eqb i i refl
equal_names-same (Local t p) = rw (eq-eqb t t refl, eq-eqb p p refl) refl

same_pointer-same : (b : BlockName) (n : ℕ) → same_pointer b n b n ≡ true
same_pointer-same Null n = eq-eqb n n refl
same_pointer-same (Given i) n = rw (eq-eqb i i refl, eq-eqb n n refl) refl
same_pointer-same (Local t i) n = refl

byte_allows-same : (b : Byte) → byte_allows b b ≡ true
byte_allows-same (byte.Bits n m) = rw (defined-own m, eq-eqb (defined_bits n m) (defined_bits n m) refl) refl
byte_allows-same (byte.Part p i) = rw (same_pointer-same p.block p.offset, eq-eqb i i refl) refl

block_allows-same : (b : MemoryBlock) → block_allows b b ≡ true
block_allows-same b = rw (equal_names-same b.name, eq-eqb b.size b.size refl, pairs_pass-same byte_allows (block_bytes b) byte_allows-same) refl

pub blocks_allow-same : (bs : List MemoryBlock) → blocks_allow bs bs ≡ true
blocks_allow-same bs = pairs_pass-same block_allows bs block_allows-same

-- local blocks are freed
pub left_freed : (ending : Ending) (m : Machine) (memory : List MemoryBlock) → memory ≡ filter is_given m.memory → left_by ending m ≡ run_with ending (record m { memory = memory })
left_freed ending m memory freed = ap (λ (bs : List MemoryBlock). run_with ending (record m { memory = bs })) (sym freed)
