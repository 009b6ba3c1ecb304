-- What proofs of this crate cite of std, of other crates and of its definitions, passed on from one place. Declares nothing.
pub use Rattle.std.proofs.Common.{◌≡◌, ℕ, ◌+◌, ◌<◌, List, [], ◌∷◌, length, drop, get_or, Bool, true, false, if◌then◌else◌, Some, None, refl, ap, ◌∙◌, inl, inr, zero, suc, ◌-◌, ◌*◌, ◌^◌, ◌≤◌, sym, arith, slice_get, add-one, ◌++◌, replicate, append_assoc, append-nil, length-append, Option, sum_by, take, ◌%◌, max, ◌&&◌, subst, map, add-zero, ◌⊎◌, pow-add, ◌≢◌, nat_eq, zero-add, suc-add, rules}
pub use Rattle.std.proofs.Math.ListN.{set, length-set}
pub use Rattle.std.proofs.Math.Nat.{mod-le, mod-eq_of_lt, mul-le-mul_right, pow-succ'}
pub use Rattle.std.proofs.Math.Pow.{pow_mono}
pub use Rattle.std.proofs.Math.Seq.{drop-length, take-suc-set}
pub use Rattle.std.proofs.lemmas.Bool.{cases_eq, cases_lt, ltb-true, cases_order, ne_eqb}
pub use Rattle.std.proofs.lemmas.List.{drop_more, set-get_or, at_drop_all, length-replicate}
pub use Rattle.std.proofs.lemmas.List.Sums.{sum_by-cons}
pub use Rattle.std.proofs.lemmas.Nat.{mod_below, pow_pos, same_from_place}
pub use Rattle.std.proofs.lemmas.Option.{get_or_from_slice_get, slice_get-get_or, slice_get_read}
pub use Rattle.std.specs.List.{flat_map, list_any}
pub use Rattle.std.specs.Int.Bits.{bit_and, and_zero_l, and_zero_r}
pub use Rattle.byte_block.specs.declared.block.MemoryBlock.{MemoryBlock}
pub use Rattle.byte_block.specs.declared.value.BlockName.{BlockName}
pub use Rattle.byte_block.specs.declared.value.BlockName.TheVariants.{Given, Null, Local}
pub use Rattle.byte_block.specs.declared.value.Byte.{Byte}
pub use Rattle.byte_block.specs.declared.value.Byte.TheVariants.{Bits, Part}
pub use Rattle.byte_block.specs.declared.value.Ptr.{Ptr}
pub use Rattle.byte_block.specs.declared.value.Value.{Value}
pub use Rattle.byte_block.specs.declared.value.Value.TheVariants.{Num, Poison}
pub use Rattle.ir_tree.specs.declared.tree.Block.{Block}
pub use Rattle.ir_tree.specs.declared.tree.Function.{Function}
pub use Rattle.ir_tree.specs.declared.tree.Inst.{Inst}
pub use Rattle.ir_tree.specs.declared.tree.Inst.TheVariants.{Binary, Icmp, Cast, Select, Freeze, Alloca, Load, Store, GetElementPtr}
pub use Rattle.ir_tree.specs.declared.tree.IrType.{IrType}
pub use Rattle.ir_tree.specs.declared.tree.IrType.TheVariants.{Int}
pub use Rattle.ir_tree.specs.declared.tree.Parameter.{Parameter}
pub use Rattle.ir_tree.specs.declared.tree.Terminator.{Terminator}
pub use Rattle.points.specs.Code.{IsGivenBlock, BlocksFit, byte_code, places_code, ValueFits, ArgsFit, ByteFits, BytesFit, IsOfShape, name_digit, value_code, args_code, blocks_code, code_of, BlockFits, WordsFit, PointerFits, place_of, no_blocks}
unfoldable pub use Rattle.points.specs.Code.{number_of}
pub use Rattle.points.specs.Codes.{AreSizes, IsCodeOfValue, IsCodeOfArgs, IsCodeOfByte, IsCodeOfPlaces, IsCodeOfBlocks, IsCode, IsChain}
pub use Rattle.points.specs.Laws.{IsPointWith, CodesTellPoints, IsLessFromFront, AreDigits, NumbersCompareFromFront, PlacesTellPoints}
pub use Rattle.points.specs.Next.{PlacesFit, IsNextPlaces, IsLastPlaces, sizes_in, memory_number, IsNextMemory, IsLastMemory, IsNextSizes, AreLastSizes, AreLeastBlocks, from_place, zero_byte, zero_places, zero_size, IsNextWords, IsLastWords, IsNextArgs, IsLastArgs, IsNextPoint, IsLastPoint, byte_number, IsNextByte, IsLastByte, places_number, IsNextValue, IsLastValue, value_number, args_number, least_value, least_from, pointer_number}
pub use Rattle.points.specs.Reads.{value_length, name_from, value_from, args_from, byte_from, places_from, blocks_from, args_length, HasByte, HaveBytes, HaveBlocks}
pub use Rattle.points.specs.Refines.{byte_allows, blocks_allow, block_allows}
unfoldable pub use Rattle.points.specs.Refines.{pairs_pass}
pub use Rattle.points.specs.Run.{Run, Exit, Over, To, ended, act, assigned, phi_value, with_phis, entered, exit_by, breaks_noundef, first_machine, run_of, undef_type, frozen, Choice, next_word, block_number, given_or_null, integer_choice, pointer_choice, choice_of, with_taken, operand_value, typed_value, typed_operand_value, access_of, allocated, loaded, stored, index_values, returns, is_poison, returned_with, exit_after, exit_of, branch_on, switch_on, Go, jump, go_on}
unfoldable pub use Rattle.points.specs.Run.{exit_insts, run_turns, forward}
pub use Rattle.points.specs.Tapes.{word_widths, inst_widths, widths_of, end_widths, block_widths, choice_widths, need_of, widest_choice, plain_form, TapesHavePlainForms}
unfoldable pub use Rattle.points.specs.Tapes.{widest}
pub use Rattle.points.specs.declared.machine.Machine.{Machine}
pub use Rattle.points.specs.declared.outcome.Outcome.TheVariants.{Ub, Beyond}
pub use Rattle.points.specs.declared.point.Bounds.{Bounds}
pub use Rattle.points.specs.declared.point.Input.{Input}
pub use Rattle.points.specs.declared.point.Layout.{Layout}
pub use Rattle.points.specs.declared.point.Point.{Point}
pub use Rattle.points.specs.declared.point.Shape.{Shape}
