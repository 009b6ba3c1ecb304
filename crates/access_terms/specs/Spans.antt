-- An access to n bytes at an offset in a block, all of it as terms.
use Rattle.std.specs.Prelude.{◌≡◌, ℕ, ◌<◌, ◌&&◌, true, false, List, length, take, drop, Option, Some, None, Bool}
use Rattle.byte_block.specs.declared.value.BlockName.{BlockName}
use Rattle.byte_block.specs.declared.value.Byte.{Byte}
use Rattle.byte_block.specs.declared.block.MemoryBlock.{MemoryBlock}
use Rattle.memory_access.specs.Blocks.{block_named, bytes_named, names}
use Rattle.memory_access.specs.Accesses.{admits}
use Rattle.bv_terms.specs.declared.term.Term.{Term}
use Rattle.bv_terms.specs.Trees.{IsTerm, bit_at, term_at}
use Rattle.mem_terms.specs.declared.bytes.SymByte.{SymByte}
use Rattle.mem_terms.specs.declared.blocks.SymBlock.{SymBlock}
use Rattle.mem_terms.specs.Values.{Reading}
use Rattle.mem_terms.specs.Memory.{AreSymBytes, block_at, places_at}
use Rattle.access_terms.specs.declared.spans.Span.{Span}

pub record IsSpan (terms : List Term) (s : Span) : Type 0 where
  pub block : IsTerm terms 64 s.block
  pub offset : IsTerm terms 64 s.offset
  pub align : 0 < s.align

-- the name of the access's block
abbrev pub span_name : Reading → List Term → Span → BlockName
span_name r terms s = r.name (term_at r.v terms s.block)

-- the block exists, and the access names it
abbrev pub is_named_by : Reading → List Term → Span → SymBlock → Bool
is_named_by r terms s b = bit_at r.v terms b.exists && names (span_name r terms s) (block_at r terms b)

-- the first block that the access names, in these
abbrev pub block_of_span : Reading → List Term → Span → List MemoryBlock → Option MemoryBlock
block_of_span r terms s memory = block_named memory (span_name r terms s)

abbrev pub admits_span : Reading → List Term → Span → Option MemoryBlock → Bool
admits_span r terms s block = admits block (term_at r.v terms s.offset) s.count s.align

-- the access's bytes
abbrev pub bytes_of_span : Reading → List Term → Span → List MemoryBlock → List Byte
bytes_of_span r terms s memory =
    take s.count (drop (term_at r.v terms s.offset) (bytes_named memory (span_name r terms s)))

-- if there are bytes, the same number as the access has
abbrev pub AreSpanBytes : List Term → Span → Option (List SymByte) → Type 0
AreSpanBytes terms s None = Unit {0}
AreSpanBytes terms s (Some bytes) = AreSymBytes terms bytes × (length bytes ≡ s.count)

-- the n bytes at an offset in the block of this name among these, where it admits them; if there are
-- none, it does not
abbrev pub Reads : Reading → List Term → BlockName → (offset n align : ℕ) → List MemoryBlock → Option (List SymByte) → Type 0
Reads r terms name offset n align memory None = admits (block_named memory name) offset n align ≡ false
Reads r terms name offset n align memory (Some bytes) =
    admits (block_named memory name) offset n align ≡ true
    → places_at r terms bytes ≡ take n (drop offset (bytes_named memory name))
