-- What proofs of this crate cite of std, of other crates and of its definitions, passed on from one place. Declares nothing.
pub use Rattle.std.proofs.Common.{◌≡◌, ℕ, zero, suc, ◌+◌, ◌-◌, ◌*◌, ◌%◌, ◌^◌, ◌<◌, ◌≤◌, Bool, true, false, ◌||◌, ◌&&◌, List, [], ◌∷◌, length, get_or, drop, ℤ, pos, negsuc, ◌+ℤ◌, ◌≤ℤ◌, neg_ℤ, to_z, of_z, refl, sym, ap, ◌∙◌, arith, ◌⊎◌, nat_eq, nat_le, if◌then◌else◌, map, take, Option, Some, None, ap₂, inl, inr, subst, min, ◌++◌, length-append, take_at, ◌/◌, replicate, ◌*ℤ◌}
pub use Rattle.std.proofs.lemmas.Option.{same_Some}
pub use Rattle.std.proofs.Math.ListN.{set}
pub use Rattle.std.proofs.Math.Nat.{mod-add-mod, mod-eq_of_lt, pow-suc, pow-le-pow_right, mul-le-mul_right, mod-add-div, add-mul-mod_self_left, div-lt_iff_lt-mul}
pub use Rattle.std.proofs.lemmas.Bool.{eqb-true, leb-true, cases_lt}
pub use Rattle.std.proofs.lemmas.Bool.Decides.{nat_tests}
pub use Rattle.std.proofs.lemmas.Int.{ints, int_rem_euclid_is, to_z_pos}
pub use Rattle.std.proofs.lemmas.List.{at_drop_more, at_drop_all, length-take, length-drop, length-take-le, drop_at, drop-take, take-take, length-replicate}
pub use Rattle.std.proofs.lemmas.List.Elements.{All-head, All-tail}
pub use Rattle.std.proofs.lemmas.Nat.{pow_pos, mod_below, shr-shr, pow-add}
pub use Rattle.std.specs.Int.{int_rem_euclid, w128}
pub use Rattle.std.specs.List.{list_any, list_all, find, position_from}
pub use Rattle.std.specs.Prelude.{slice_get, slice_set, All}
pub use Rattle.byte_block.specs.declared.block.MemoryBlock.{MemoryBlock}
pub use Rattle.byte_block.specs.declared.value.BlockName.{BlockName}
pub use Rattle.byte_block.specs.declared.value.BlockName.TheVariants.{Null, Given, Local}
pub use Rattle.byte_block.specs.declared.value.Byte.{Byte}
pub use Rattle.byte_block.specs.declared.value.Byte.TheVariants.{Bits, Part}
pub use Rattle.byte_block.specs.declared.value.Ptr.{Ptr}
pub use Rattle.byte_block.specs.declared.value.Value.{Value}
unfoldable pub use Rattle.tv_num.specs.Width.{wrapped, signed_of}
pub use lib.Seq.{paste}
pub use Rattle.memory_access.specs.Accesses.{admits, is_defined, load_result, overwritten, store_result, after_store}
unfoldable pub use Rattle.memory_access.specs.Accesses.{first_changed}
pub use Rattle.memory_access.specs.Blocks.{equal_names, names, block_bytes, bytes_or_none, bytes_named}
pub use Rattle.memory_access.specs.Bytes.{access_size, value_bytes, value_of_bytes, is_part_of, number_or_poison, pointer_or_poison}
unfoldable pub use Rattle.memory_access.specs.Bytes.{number_bytes, poison_bytes, parts_from, number_of_bytes, are_parts}
pub use Rattle.memory_access.specs.Laws.{Fits, IsElsewhere, frame_of, IsZero, IsByte}
pub use Rattle.memory_access.specs.Offsets.{scaled, last_sum, is_outside, leaves_block, is_index, signed_number, signed_index, is_nonzero, is_negative, gep_result}
unfoldable pub use Rattle.memory_access.specs.Offsets.{partial_sums}
pub use Rattle.memory_access.specs.declared.access_types.Access.{Access}
pub use Rattle.memory_access.specs.declared.access_types.Access.TheVariants.{Int, Pointer}
pub use Rattle.memory_access.specs.declared.offsets.Index.{Index}
