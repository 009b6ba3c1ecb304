-- What the terms of a load, a store and an alloca denote under an assignment of the variables.
use Rattle.std.specs.Prelude.{◌≡◌, ℕ, ◌&&◌, cond, List, length, take, drop}
use Rattle.byte_block.specs.declared.value.Byte.{Byte}
use Rattle.memory_access.specs.declared.access_types.Loaded.{Loaded}
use Rattle.memory_access.specs.declared.access_types.Loaded.TheVariants as loaded
use Rattle.memory_access.specs.declared.access_types.Stored.{Stored}
use Rattle.memory_access.specs.declared.access_types.Stored.TheVariants as stored
use Rattle.memory_access.specs.Blocks.{block_bytes}
use Rattle.bv_terms.specs.declared.term.TermId.{TermId}
use Rattle.bv_terms.specs.declared.term.Term.{Term}
use Rattle.bv_terms.specs.Trees.{IsTerm, bit_at, term_at}
use Rattle.mem_terms.specs.declared.blocks.SymBlock.{SymBlock}
use Rattle.mem_terms.specs.Values.{IsSymValue, Reading, value_at}
use Rattle.mem_terms.specs.Memory.{block_at}
use Rattle.access_terms.specs.declared.accesses.SymLoaded.{SymLoaded}

-- ---- one block

-- n bytes of a block from an offset on
abbrev pub bytes_from : Reading → List Term → SymBlock → TermId → ℕ → List Byte
bytes_from r terms b offset n = take n (drop (term_at r.v terms offset) (block_bytes (block_at r terms b)))

-- ---- load

pub record IsSymLoaded (terms : List Term) (l : SymLoaded) : Type 0 where
  pub is_defined : IsTerm terms 1 l.is_defined
  pub value : IsSymValue terms l.value

abbrev pub loaded_at : Reading → List Term → SymLoaded → Loaded
loaded_at r terms l = cond (bit_at r.v terms l.is_defined) (loaded.Done (value_at r terms l.value)) loaded.Ub

-- ---- store

abbrev pub stored_at : Reading → List Term → (is_defined : TermId) → Stored
stored_at r terms is_defined = cond (bit_at r.v terms is_defined) stored.Done stored.Ub

-- what a store keeps of a block
pub record SymFrame : Type 0 where
  pub number : ℕ
  pub exists : TermId
  pub align : ℕ
  pub room : ℕ

abbrev pub sym_frame : SymBlock → SymFrame
sym_frame b = record { number = b.number; exists = b.exists; align = b.align; room = length b.places }
