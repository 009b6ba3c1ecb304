-- What proofs of this crate cite of std, of other crates and of its definitions, passed on from one place. Declares nothing.
pub use Rattle.std.proofs.Common.{ℕ, ◌≡◌, Bool, true, false, cond, List, [], ◌∷◌, ◌++◌, refl, ap, sym, subst, ◌∙◌, zero, suc, ◌<◌, ◌≤◌, ◌+◌, not, ◌&&◌, length, take, drop, get_or, slice_get, slice_set, map, Some, Result, Ok, Err, OnOk, inl, inr, arith, add-one, append_assoc, ◌-◌, ◌%◌, nat_eq, nat_lt, nat_le, min, ◌||◌, eqb-true, Option, None, ◌*◌, ◌^◌, ℤ, pos, negsuc, neg_ℤ, ◌+ℤ◌, pow-add, pow_pos, pow_mono, rules, replicate}
pub use Rattle.std.proofs.lemmas.Bool.{cases_Bool, cases_eq, eq-eqb, le-ltb, lt-ltb, ne_eqb, le-leb, leb-true, ltb-true, cases_lt, lt-leb, not-true}
pub use Rattle.std.proofs.lemmas.Bool.Decides.{nat_tests}
pub use Rattle.std.proofs.lemmas.List.{append-nil, drop_all, drop-map, length-drop, length-take, set-get_or, take-map, drop-take, take-take, at_drop_more, at_drop_all, length-set}
pub use Rattle.std.proofs.lemmas.Nat.{mod_below, mul-le}
pub use Rattle.std.proofs.lemmas.Result.{IfOk-weaker, on_ok_weaker}
pub use Rattle.std.specs.List.{list_all, list_any}
pub use Rattle.std.specs.Prelude.{◌*ℤ◌, int_lt}
pub use Rattle.bv_terms.specs.Tree.{width_of, truth, extended_signed}
pub use Rattle.bv_terms.specs.Trees.{Keeps, bit_at, term_at, IsTerm, Tests, Makes, tree_in, AreInRange}
pub use Rattle.bv_terms.specs.declared.term.Term.{Term}
pub use Rattle.bv_terms.specs.declared.term.TermId.{TermId}
pub use Rattle.byte_block.specs.declared.block.MemoryBlock.{MemoryBlock}
pub use Rattle.byte_block.specs.declared.value.BlockName.{BlockName}
pub use Rattle.byte_block.specs.declared.value.Byte.{Byte}
pub use Rattle.byte_block.specs.declared.value.Byte.TheVariants.{Bits}
pub use Rattle.byte_block.specs.declared.value.Value.{Value}
pub use Rattle.byte_terms.proofs.Naming.{never_true, named_stands}
pub use Rattle.mem_terms.proofs.Bits.{term-below}
pub use Rattle.mem_terms.proofs.Eaches.{each-push, map-length, each-at, map-at, map-set, take-push, each-weaker, map-same, at-any, each-set}
pub use Rattle.mem_terms.proofs.Later.{memory-later, sym_blocks-later, keeps_trans, bit-later, term-later, block-later, places-later, value-later, byte-later, sym_bytes-later, is_term-later, sym_block-later, keeps_self}
pub use Rattle.mem_terms.proofs.Made.{small_mod, below-wider}
pub use Rattle.mem_terms.specs.Memory.{AreSymBlocks, IsSymBlock, places_at, AreSymBytes, IsSymByte}
unfoldable pub use Rattle.mem_terms.specs.Memory.{block_at, memory_at, byte_at}
pub use Rattle.mem_terms.specs.Values.{Reading, Each, IsSymValue, value_of, value_from, IsNaming}
unfoldable pub use Rattle.mem_terms.specs.Values.{value_at}
pub use Rattle.mem_terms.specs.declared.blocks.SymBlock.{SymBlock}
pub use Rattle.mem_terms.specs.declared.bytes.SymByte.{SymByte}
pub use Rattle.mem_terms.specs.declared.values.SymValue.{SymValue}
pub use Rattle.memory_access.proofs.Sums.{wrapped-euclid, inside, last_sum-end, last_sum-more, leaves-at_base, leaves-here, leaves-later, leaves-never, wrapped-small}
pub use Rattle.memory_access.specs.Accesses.{admits, after_store, overwritten, store_result, load_result}
unfoldable pub use Rattle.memory_access.specs.Accesses.{first_changed}
pub use Rattle.memory_access.specs.Blocks.{names, block_named, block_size, block_bytes, bytes_named, bytes_or_none}
pub use Rattle.memory_access.specs.Bytes.{access_size, value_bytes, value_of_bytes}
pub use Rattle.memory_access.specs.Offsets.{is_outside, is_index, is_number, last_sum, leaves_block, scaled, breaks_inbounds, gep_result, is_negative, is_nonzero}
pub use Rattle.memory_access.specs.declared.access_types.Access.{Access}
pub use Rattle.memory_access.specs.declared.offsets.Index.{Index}
unfoldable pub use Rattle.tv_num.specs.Width.{signed_of, wrapped}
pub use lib.Seq.{paste}
pub use Rattle.access_terms.specs.Accesses.{stored_at, bytes_from, loaded_at, sym_frame, SymFrame}
pub use Rattle.access_terms.specs.Joining.{part_at, AreAbove, AreAlike, IsGrown, IsJoined, IsUpTo}
pub use Rattle.access_terms.specs.Offsets.{AreNumbers, indices_at, AreSymIndices, IsSymIndex, passes}
unfoldable pub use Rattle.access_terms.specs.Offsets.{walked_sum, index_at}
pub use Rattle.access_terms.specs.Places.{written}
pub use Rattle.access_terms.specs.Spans.{IsSpan, admits_span, block_of_span, is_named_by, span_name, AreSpanBytes, Reads}
pub use Rattle.access_terms.specs.declared.offsets.SymIndex.{SymIndex}
pub use Rattle.access_terms.specs.declared.spans.Span.{Span}
