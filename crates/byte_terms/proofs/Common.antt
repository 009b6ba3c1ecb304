-- What proofs of this crate cite of std, of other crates and of its definitions, passed on from one place. Declares nothing.
pub use Rattle.std.proofs.Common.{ℕ, zero, suc, ◌≡◌, ◌<◌, ◌≤◌, ◌+◌, ◌-◌, ◌*◌, ◌/◌, ◌%◌, ◌^◌, Bool, true, false, cond, not, ◌&&◌, ◌||◌, nat_eq, nat_lt, min, List, [], ◌∷◌, ◌++◌, length, take, drop, replicate, get_or, Option, Some, None, refl, ap, sym, subst, ◌∙◌, inl, inr, arith, eqb-true, map, add-one, length-append, ap₂, rules}
pub use Rattle.std.proofs.lemmas.Option.{same_Some}
pub use Rattle.std.proofs.lemmas.Bool.{cases_Bool, eq-eqb, lt-ltb, ltb-true, ne_eqb}
pub use Rattle.std.proofs.lemmas.List.{at_drop_all, at_drop_more, replicate_more, take_all, take_more}
pub use Rattle.std.specs.Option.{is_some, option_map}
pub use Rattle.std.specs.Prelude.{slice_get, slice_index_or}
pub use Rattle.bv_terms.specs.Tree.{width_of, Tree, truth}
pub use Rattle.bv_terms.specs.Trees.{AreInRange, IsTerm, Keeps, Makes, Tests, bit_at, term_at, tree_in, AreFit, trees_from}
unfoldable pub use Rattle.bv_terms.specs.Trees.{trees_of}
pub use Rattle.bv_terms.specs.declared.term.Term.{Term}
pub use Rattle.bv_terms.specs.declared.term.TermId.{TermId}
pub use Rattle.byte_block.specs.declared.value.BlockName.{BlockName}
pub use Rattle.byte_block.specs.declared.value.Byte.{Byte}
pub use Rattle.byte_block.specs.declared.value.Byte.TheVariants.{Bits, Part}
pub use Rattle.byte_block.specs.declared.value.Ptr.{Ptr}
pub use Rattle.mem_terms.proofs.Eaches.{each-at, map-push, each-push, map-at, map-length, at-any}
pub use Rattle.mem_terms.proofs.Later.{bit-later, keeps_trans, places-later, term-later, byte-later, sym_bytes-later, keeps_self, sym_byte-later}
pub use Rattle.mem_terms.specs.Memory.{AreSymBytes, IsSymByte, byte_of, places_at, IsSymBlock}
unfoldable pub use Rattle.mem_terms.specs.Memory.{byte_at, block_at}
pub use Rattle.mem_terms.specs.Values.{IsSymValue, Reading, value_from, value_of, IsNaming, Each}
unfoldable pub use Rattle.mem_terms.specs.Values.{number_at, value_at}
pub use Rattle.mem_terms.specs.declared.bytes.SymByte.{SymByte}
pub use Rattle.mem_terms.specs.declared.values.SymValue.{SymValue}
pub use Rattle.memory_access.proofs.ByteLists.{number_bytes-get, parts_from-get, poison_bytes-get}
pub use Rattle.memory_access.proofs.Masks.{defined-all, defined-none, defined-zero}
pub use Rattle.memory_access.specs.Blocks.{equal_pointers, equal_names, names}
pub use Rattle.memory_access.specs.Bytes.{defined_bits, number_or_poison, value_bytes, value_of_bytes, is_part_of, pointer_or_poison}
unfoldable pub use Rattle.memory_access.specs.Bytes.{number_bytes, number_of_bytes, poison_bytes, are_parts, parts_from}
pub use Rattle.memory_access.specs.declared.access_types.Access.TheVariants.{Int, Pointer}
