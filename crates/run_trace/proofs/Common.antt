-- What proofs of this crate cite of std, of other crates and of its definitions, passed on from one place. Declares nothing.
pub use Rattle.std.proofs.Common.{◌≡◌, ℕ, ◌%◌, List, [], ◌∷◌, nat_eq, Bool, true, false, if◌then◌else◌, Some, inl, inr, refl, sym, ◌∙◌, ◌≢◌, ◌+◌, ◌<◌, map, length, ◌&&◌, ◌||◌, not, ap, zero, suc, ◌≤◌, ◌++◌, nat_lt, Option, None, subst, arith, drop, ◌^◌, get_or, ◌-◌, ◌*◌}
pub use Rattle.std.proofs.lemmas.Bool.{eqb-true, ltb-true, cases_lt, or_parts, and_parts, not-true}
pub use Rattle.std.proofs.lemmas.List.{drop_all, drop_more, get_or-set_same, length-set}
pub use Rattle.std.proofs.lemmas.Option.{slice_get_past, slice_get_cases, slice_get_within, get_or_from_slice_get, slice_get-get_or, slice_get_read}
pub use Rattle.std.specs.List.{list_any, list_all, find}
pub use Rattle.std.specs.Prelude.{IsSomeAnd, slice_get, MatchOption, slice_set}
pub use Rattle.byte_block.specs.declared.value.Value.{Value}
pub use Rattle.byte_block.specs.declared.value.Value.TheVariants.{Num, Poison}
pub use Rattle.choice_interp.specs.Left.{exit_with, left_by}
pub use Rattle.ir_tree.specs.Flow.{block_of}
pub use Rattle.ir_tree.specs.declared.tree.Block.{Block}
pub use Rattle.ir_tree.specs.declared.tree.Function.{Function}
pub use Rattle.ir_tree.specs.declared.tree.Inst.{Inst}
pub use Rattle.ir_tree.specs.declared.tree.Inst.TheVariants.{Select, Freeze, Alloca, GetElementPtr, Binary}
pub use Rattle.ir_tree.specs.declared.tree.IrType.{IrType}
pub use Rattle.ir_tree.specs.declared.tree.MemoryType.{MemoryType}
pub use Rattle.ir_tree.specs.declared.tree.Operand.{Operand}
pub use Rattle.ir_tree.specs.declared.tree.Parameter.{Parameter}
pub use Rattle.ir_tree.specs.declared.tree.Phi.{Phi}
pub use Rattle.ir_tree.specs.declared.tree.TypedOperand.{TypedOperand}
pub use Rattle.points.specs.Run.{operand_value, typed_operand_value, cut_value, typed_value, choice_of, with_taken, frozen, is_poison, address_value, index_values, Exit, exit_by, branch_on, switch_on, returned_run, returned_with, undef_type, ended, Run, To, Over, act, entered, breaks_noundef, argument_value, first_machine, run_of, assigned}
unfoldable pub use Rattle.points.specs.Run.{exit_insts, forward, run_turns}
pub use Rattle.points.specs.Table.{selected, poison_if, is_zero_or_poison, is_minus_1, is_least_or_poison, has_no_quotient, is_undefined, is_poisoned, number_result, defined_result, value_result}
pub use Rattle.points.specs.declared.machine.Machine.{Machine}
pub use Rattle.points.specs.declared.outcome.Outcome.TheVariants.{Ub}
pub use Rattle.points.specs.declared.point.Bounds.{Bounds}
pub use Rattle.points.specs.declared.point.Input.{Input}
pub use Rattle.tv_num.specs.declared.Width.{Width}
pub use Rattle.run_trace.specs.Causes.{NeedsCause, IsPoisonCause, IsCauseOf}
pub use Rattle.run_trace.specs.Items.{Position, Insts, State, At, Leaves, item_at, at_block, after_jump, after_exit, again, Phase, Call, Phis, Done, first_state, parameter_item, phi_item, inst_item, phi_item_in, inst_item_in, after, after_inst, Item, Gets, Begins, Reads, Enters, Acts, Missing}
pub use Rattle.run_trace.specs.Operands.{used_as, taken_arm, effective_operands, is_poison_name, is_poison_literal, value_after, index_operand, end_operands, is_name, name_of, words_after, phi_operand, values_of, words_since}
pub use Rattle.run_trace.specs.Parts.{position, IsFailedExit, IsReasonOver, IsLeaving, is_too_many, ShowsAt, GoesOn, IsBefore, after_insts, state_after}
pub use Rattle.run_trace.specs.Reasons.{is_some_poison, gives_poison, IsByFlag, IsReturnOf, IsEndReason, is_flag, no_flag, op_kept, is_cause_of_division, IsInstReason}
pub use Rattle.run_trace.specs.Trace.{is_no_return, is_failure, value_of_exit, block_of_exit, taken_by_exit, needs_reason, HasReason, Shows, Leads, stays, shown, silent, site_of}
pub use Rattle.run_trace.specs.declared.steps.Flag.{Flag}
pub use Rattle.run_trace.specs.declared.steps.Reason.{Reason}
pub use Rattle.run_trace.specs.declared.steps.Step.{Step}
