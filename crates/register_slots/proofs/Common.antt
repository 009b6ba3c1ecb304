-- What proofs of this crate cite of std, of other crates and of its definitions, passed on from one place. Declares nothing.
pub use Rattle.std.proofs.Common.{◌≡◌, ℕ, zero, suc, ◌+◌, List, [], ◌∷◌, length, map, nat_lt, Bool, true, false, ◌==◌, if◌then◌else◌, Option, Some, None, refl, sym, ap, subst, ◌∙◌, ◌<◌, replicate, ◌⊎◌, inl, inr, arith, drop, get_or, nat_eq, cond, ◌↔◌, ◌≤◌, set, Contains, ◌&&◌, ◌||◌, ◌%◌, ◌++◌, ◌-◌, vec_len}
pub use Rattle.std.proofs.lemmas.Bool.{cases_eq, eqb-true, cases_lt}
pub use Rattle.std.proofs.lemmas.List.{length-map, length-set, length-replicate, get_or-replicate, drop_more, get_or-set_same, get_or-set_other, get_or_past}
pub use Rattle.std.proofs.lemmas.Option.{slice_get-map, slice_get_within, slice_get-get_or, get_or_from_slice_get, none-some, same_Some}
pub use Rattle.std.specs.List.{position_or_len, AllByRecursion, find}
pub use Rattle.std.specs.Option.{option_map, option_map_or}
pub use Rattle.std.specs.Prelude.{slice_get, slice_index_or, slice_set, All, IfSome}
pub use Rattle.byte_block.specs.declared.value.Value.{Value}
pub use Rattle.byte_block.specs.declared.value.Value.TheVariants.{Poison, Num}
pub use Rattle.ir_tree.specs.Flow.{block_of, results_of, targets}
pub use Rattle.ir_tree.specs.Types.{indexed_size, object_size}
pub use Rattle.ir_tree.specs.declared.name.Name.{Name}
pub use Rattle.ir_tree.specs.declared.tree.Block.{Block}
pub use Rattle.ir_tree.specs.declared.tree.Function.{Function}
pub use Rattle.ir_tree.specs.declared.tree.GepIndex.{GepIndex}
pub use Rattle.ir_tree.specs.declared.tree.Inst.{Inst}
pub use Rattle.ir_tree.specs.declared.tree.IrType.{IrType}
pub use Rattle.ir_tree.specs.declared.tree.MemoryType.{MemoryType}
pub use Rattle.ir_tree.specs.declared.tree.Operand.{Operand}
pub use Rattle.ir_tree.specs.declared.tree.Parameter.{Parameter}
pub use Rattle.ir_tree.specs.declared.tree.Phi.{Phi}
pub use Rattle.ir_tree.specs.declared.tree.PhiEntry.{PhiEntry}
pub use Rattle.ir_tree.specs.declared.tree.Terminator.{Terminator}
pub use Rattle.ir_tree.specs.declared.tree.TypedOperand.{TypedOperand}
pub use Rattle.points.specs.Run.{Exit, To, Over, ended, exit_of, Go, jump, go_on, operand_value, cut_value, typed_value, typed_operand_value, index_values, assigned, phi_value, with_phis, entered, is_poison, argument_value, with_args, first_machine, breaks_noundef, act, allocated, frozen, loaded, stored, with_taken, choice_of, access_of, undef_type, returns, returned_with, returned_run, branch_on, switch_on, exit_by, exit_after}
unfoldable pub use Rattle.points.specs.Run.{forward, run_turns, exit_insts}
pub use Rattle.points.specs.declared.machine.Machine.{Machine}
pub use Rattle.points.specs.declared.outcome.Outcome.TheVariants.{Beyond, Ub}
pub use Rattle.register_slots.specs.Allocation.{only_holding, IsRightJump, IsAllocation, IsHeld, holding, HasSlot, IsRightInst, IsRightBlock, parameter_names, IsReadHeld, IsEntryHeld, IsRightPhi, IsRightEdge, AreReadHeld}
unfoldable pub use Rattle.register_slots.specs.Allocation.{held_after, AreRightInsts}
pub use Rattle.register_slots.specs.PhiReads.{Grows, IsReadNoted, IsEntryNoted, IsPhiNoted, IsBlockNoted, ArePhisHeld, AreEntriesHeld}
pub use Rattle.register_slots.specs.Renaming.{block_in, function_in, slot_of, operand_in, typed_in, index_in, entry_in, inst_in, phi_in, terminator_in, parameter_in}
