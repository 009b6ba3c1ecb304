-- What proofs of this crate cite of std, of other crates and of its definitions, passed on from one place. Declares nothing.
pub use Rattle.std.proofs.Common.{ℕ, ◌≡◌, ◌<◌, ◌≤◌, ◌+◌, ◌++◌, ◌∷◌, [], ◌∙◌, List, length, drop, get_or, refl, ap, sym, zero, suc, Bool, true, false, ◌&&◌, ◌||◌, cond, map, take, nat_eq, nat_lt, nat_le, inl, inr, subst, arith, ◌-◌, length-append, Option, Some, None, IfSome, not, slice_set, if◌then◌else◌, ◌%◌, ◌^◌, slice_index, add-one, replicate, max, ◌⊎◌, Bor}
pub use Rattle.std.proofs.Math.Bool.{or-false, or-true, and-true, or_assoc, and_assoc}
pub use Rattle.std.proofs.Math.Dec.{eqb-suc-zero, eqb-zero-suc, eqb-suc-suc}
pub use Rattle.std.proofs.lemmas.Bool.{cases_Bool, eqb-true, eqb-false, cases_lt, lt-leb, le-leb}
pub use Rattle.std.proofs.lemmas.Bool.Decides.{nat_tests}
pub use Rattle.std.proofs.lemmas.List.{append_assoc, append-nil, length-take, take-append-drop, set-set, set_comm, length-set, take_all, drop_all, drop_more, drop-map, take-map}
pub use Rattle.std.proofs.lemmas.Option.{slice_get_past, slice_get_within}
pub use Rattle.std.proofs.lemmas.Result.{on_ok_weaker}
pub use Rattle.std.specs.List.{list_any, filter, find}
pub use Rattle.std.specs.Option.{option_map, option_map_or}
pub use Rattle.std.specs.Prelude.{slice_get, slice_index_or, is_some}
pub use Rattle.access_terms.proofs.Stored.{each-take}
pub use Rattle.access_terms.specs.Accesses.{sym_frame, IsSymLoaded, loaded_at, stored_at}
pub use Rattle.access_terms.specs.Offsets.{AreSymIndices, IsSymIndex, indices_at}
unfoldable pub use Rattle.access_terms.specs.Offsets.{index_at}
pub use Rattle.access_terms.specs.declared.offsets.SymIndex.{SymIndex}
pub use Rattle.bv_terms.specs.Tree.{Tree, truth, width_of}
pub use Rattle.bv_terms.specs.Trees.{AreFit, trees_from, tree_in, AreInRange}
unfoldable pub use Rattle.bv_terms.specs.Trees.{trees_of}
pub use Rattle.byte_block.specs.declared.block.MemoryBlock.{MemoryBlock}
pub use Rattle.byte_block.specs.declared.value.BlockName.{BlockName}
pub use Rattle.byte_block.specs.declared.value.BlockName.TheVariants.{Given, Null, Local}
pub use Rattle.byte_block.specs.declared.value.Value.TheVariants.{Num, Poison, Ptr}
pub use Rattle.ir_tree.specs.Limits.{HasSmallObjects, CanRun, HasSmallNumbers, FitsReturn, ReturnsFit, HasSmallArrays, HasSmallTypes, HasSmallNumber}
pub use Rattle.ir_tree.specs.Types.{object_size, padded, store_size, nested_size, indexed_size}
pub use Rattle.ir_tree.specs.declared.tree.Block.{Block}
pub use Rattle.ir_tree.specs.declared.tree.Case.{Case}
pub use Rattle.ir_tree.specs.declared.tree.Function.{Function}
pub use Rattle.ir_tree.specs.declared.tree.GepIndex.{GepIndex}
pub use Rattle.ir_tree.specs.declared.tree.Inst.{Inst}
pub use Rattle.ir_tree.specs.declared.tree.IrType.{IrType}
pub use Rattle.ir_tree.specs.declared.tree.MemoryType.{MemoryType}
pub use Rattle.ir_tree.specs.declared.tree.Op.{Op}
pub use Rattle.ir_tree.specs.declared.tree.Operand.{Operand}
pub use Rattle.ir_tree.specs.declared.tree.Phi.{Phi}
pub use Rattle.mem_terms.proofs.Eaches.{each-push, each-weaker, map-push, map-same, map-length, each-set, map-set, take-push, each-at, map-at, at-any}
pub use Rattle.mem_terms.proofs.Later.{bit-later, term-later, is_term-later, memory-later, given_blocks-later, keeps_trans, sym_value-later, sym_values-later, value-later, values-later, sym_blocks-later, words_at-later, args_at-later, keeps_self, makes-later, always_each-later, number-later, words-later}
pub use Rattle.mem_terms.proofs.Made.{small_mod, below-wider}
pub use Rattle.mem_terms.proofs.Naming.{given_before, local_block, naming, given_named, local_named}
pub use Rattle.mem_terms.specs.Memory.{IsAlways, SymFrame, IsSymBlock, frames_of, given_frames}
unfoldable pub use Rattle.mem_terms.specs.Memory.{block_at}
pub use Rattle.mem_terms.specs.Values.{block_name, option_from, reading, IsSymNumber, value_from, value_of, local_number}
unfoldable pub use Rattle.mem_terms.specs.Values.{number_at}
pub use Rattle.mem_terms.specs.declared.integers.SymNumber.{SymNumber}
pub use Rattle.memory_access.specs.Blocks.{equal_names, names}
pub use Rattle.points.specs.Run.{index_value, index_values, block_number, given_or_null, act, assigned, is_given, cut_value, argument_value, breaks_noundef, first_machine, is_null, is_poison, with_args, phi_value, with_phis, entered, Exit, Over, exit_after, exit_by, branch_on, switch_on, next_word, choice_of, frozen, typed_value, with_taken, access_of, allocated, loaded, stored, returned_with, returned_run, undef_type}
unfoldable pub use Rattle.points.specs.Run.{exit_insts}
pub use Rattle.points.specs.Table.{value_result, cast_value, compared, defined_result, has_no_quotient, is_least_or_poison, is_minus_1, is_undefined, is_zero_or_poison, selected}
pub use Rattle.points.specs.declared.outcome.Outcome.{Outcome}
pub use Rattle.points.specs.declared.outcome.Outcome.TheVariants.{Return, Ub, Beyond}
pub use Rattle.unroll.specs.Layers.{edge_to, copies_of, left_by, pass_copy, run_at_end, edge_of}
unfoldable pub use Rattle.unroll.specs.Layers.{layer_of, layers_of, walk}
pub use Rattle.unroll.specs.declared.layered.BlockCopy.{BlockCopy}
pub use Rattle.unroll.specs.declared.layered.Edge.{Edge}
pub use Rattle.run_terms.specs.Common.{Value, Term, Keeps, bit_at, SymBlock, Each, first_local, frame_of, RunMemory, AreNumberedFrom, IsRunMemory, Scene, sight, TermId, IsTerm, Reading, AreGivenBlocks, AreSymBlocks, frames_in, Machine, Where, At, Done, Tests, RunState, IsState, MatchesState, Visit, visit_of, AreStates, IsUnreached, MatchesAhead, MatchesEntry, operand_value, SymValue, IsNaming, IsSymValue, value_at, values_at, memory_at, Tally, Always, Counts, IsTally, MatchesCourse, Steps, shape_of, stepped, AreWords, Ending, Frontier, Leaving, Setting, Sees, HasShape, IsEnding, IsFrontier, IsLeaving, MatchesEnding, MatchesFrontier, ending_at, Run, StateShape, Test, AreTests, HoldAll, LeadsBy, Separates, Ends, Leaves, Makes, term_at, words_at, AreSymValues, as_integer, branched, switched_on, ended, AreByLabel, HaveShape, IsCopyIn, Simulates, placed, shape_in, along, Everywhere, EndedSo, typed_operand_value, NotEnded, ending_shape}
pub use Rattle.run_terms.specs.Frontier.{EndingShape, HasLeft, HasReturned, IsReturned, entering, arrived}
pub use Rattle.run_terms.specs.declared.ending.Left.{Left}
pub use Rattle.run_terms.specs.Runs.{Course, Idle, Dead, Live, advanced, fits_from}
unfoldable pub use Rattle.run_terms.specs.Runs.{steps}
