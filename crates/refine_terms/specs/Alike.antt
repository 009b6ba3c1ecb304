-- What two values that are not poison, or two bytes, are compared by.
use Rattle.std.specs.Prelude.{ℕ, Bool, cond, ◌&&◌, nat_eq, List}
use Rattle.memory_access.specs.Bytes.{defined_bits}
use Rattle.points.specs.Refines.{same_pointer}
use Rattle.bv_terms.specs.declared.term.TermId.{TermId}
use Rattle.bv_terms.specs.declared.term.Term.{Term}
use Rattle.bv_terms.specs.Trees.{bit_at, term_at}
use Rattle.mem_terms.specs.declared.values.SymValue.{SymValue}
use Rattle.mem_terms.specs.declared.bytes.SymByte.{SymByte}
use Rattle.mem_terms.specs.Values.{block_name}

-- pointers of these blocks and offsets are equal after the runs, with `given` given blocks
abbrev pub alike_pointers : ℕ → (ℕ → ℕ → ℕ) → List Term → (block offset block' offset' : TermId) → Bool
alike_pointers given v terms block offset block' offset' =
    same_pointer (block_name given (term_at v terms block)) (term_at v terms offset) (block_name given (term_at v terms block')) (term_at v terms offset')

-- the pointers where the first is one, else the numbers
abbrev pub alike_content : ℕ → (ℕ → ℕ → ℕ) → List Term → SymValue → SymValue → Bool
alike_content given v terms s t = cond (bit_at v terms s.is_pointer) (alike_pointers given v terms s.block s.number t.block t.number) (nat_eq (term_at v terms s.number) (term_at v terms t.number))

abbrev pub alike_values : ℕ → (ℕ → ℕ → ℕ) → List Term → SymValue → SymValue → Bool
alike_values given v terms s t = nat_eq (term_at v terms s.is_pointer) (term_at v terms t.is_pointer) && alike_content given v terms s t

abbrev pub alike_parts : ℕ → (ℕ → ℕ → ℕ) → List Term → SymByte → SymByte → Bool
alike_parts given v terms s t = alike_pointers given v terms s.block s.offset t.block t.offset && nat_eq (term_at v terms s.part) (term_at v terms t.part)

-- the bits that aren't in the first mask are the same; what a number has in a bit of its mask has no meaning
abbrev pub alike_numbers : (ℕ → ℕ → ℕ) → List Term → SymByte → SymByte → Bool
alike_numbers v terms s t = nat_eq (defined_bits (term_at v terms s.number) (term_at v terms s.mask)) (defined_bits (defined_bits (term_at v terms t.number) (term_at v terms t.mask)) (term_at v terms s.mask))

-- and the second mask lies within the first
abbrev pub alike_bits : (ℕ → ℕ → ℕ) → List Term → SymByte → SymByte → Bool
alike_bits v terms s t = nat_eq (defined_bits (term_at v terms t.mask) (term_at v terms s.mask)) 0 && alike_numbers v terms s t
