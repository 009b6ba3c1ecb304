-- What the proofs that a sample's operands are present cite, passed on from one place. Declares nothing.
pub use Rattle.std.proofs.Common.{◌≡◌, ◌⊎◌, ◌≢◌, ◌↔◌, ℕ, zero, suc, ◌+◌, ◌-◌, ◌<◌, ◌≤◌, min, max, Bool, true, false, not, cond, ◌&&◌, ◌||◌, ◌==◌, nat_lt, nat_le, nat_eq, if◌then◌else◌, IsTrue, List, [], ◌∷◌, ◌++◌, length, get_or, set, map, take, drop, replicate, sum_by, slice_get, slice_index_or, slice_set, All, Contains, Option, Some, None, is_some, inl, inr, refl, sym, ap, subst, ◌∙◌, arith, append_assoc, append-nil, option_map}
pub use Rattle.std.specs.List.{find, flat_map, list_any, AllByRecursion, position_or_len}
pub use Rattle.std.specs.Option.{option_map_or}
pub use Rattle.std.proofs.lemmas.Bool.{cases_Bool, cases_eq, cases_lt, both_ways}
pub use Rattle.std.proofs.lemmas.Bool.Decides.{nat_tests}
pub use Rattle.std.proofs.lemmas.List.{length-set, length-map, get_or-set_same, get_or-set_other, get_or_append_left, get_or-append-add, set-append_left, set-append_right}
pub use Rattle.std.proofs.lemmas.List.Sums.{sum_by-cons}
pub use Rattle.std.proofs.lemmas.List.Elements.{Contains-append_left, Contains-append_right, Contains-append_cases}
pub use Rattle.std.proofs.lemmas.Option.{none-some, same_Some, slice_get_within, get_or_from_slice_get, slice_get-map}
pub use Rattle.tv_num.specs.declared.Width.{Width}
pub use Rattle.ir_tree.specs.declared.tree.IrType.{IrType}
pub use Rattle.ir_tree.specs.declared.tree.Operand.{Operand}
pub use Rattle.ir_tree.specs.declared.tree.TypedOperand.{TypedOperand}
pub use Rattle.ir_tree.specs.declared.tree.Op.{Op}
pub use Rattle.ir_tree.specs.declared.tree.Predicate.{Predicate}
pub use Rattle.ir_tree.specs.declared.tree.Cast.{Cast as Conversion}
pub use Rattle.ir_tree.specs.declared.tree.Inst.{Inst}
pub use Rattle.ir_tree.specs.declared.tree.GepIndex.{GepIndex}
pub use Rattle.ir_tree.specs.declared.tree.MemoryType.{MemoryType}
pub use Rattle.ir_tree.specs.declared.tree.Phi.{Phi}
pub use Rattle.ir_tree.specs.declared.tree.PhiEntry.{PhiEntry}
pub use Rattle.ir_tree.specs.declared.tree.Case.{Case}
pub use Rattle.ir_tree.specs.declared.tree.Terminator.{Terminator}
pub use Rattle.ir_tree.specs.declared.tree.Block.{Block}
pub use Rattle.ir_tree.specs.declared.tree.Parameter.{Parameter}
pub use Rattle.ir_tree.specs.declared.tree.Function.{Function}
pub use Rattle.ir_tree.specs.Types.{one_bit}
pub use Rattle.ir_tree.specs.Flow.{results_of, block_of, labels, targets, successors, assigns, assigned_with}
pub use Rattle.ir_tree.specs.Carrying.{carrying_operands, insts_of, makes, carried_from, carried_by, leaf_count, carries, is_division, refuses_undef, end_refuses_undef}
pub use Rattle.ir_tree.proofs.Leaves.{counts_agree}
pub use Rattle.byte_block.specs.declared.value.Value.{Value}
pub use Rattle.points.specs.declared.machine.Machine.{Machine}
pub use Rattle.points.specs.Table.{value_result, defined_result, compared, cast_value, selected}
pub use Rattle.points.specs.Run.{Run, Exit, To, Over, operand_value, typed_value, typed_operand_value, choice_of, with_taken, assigned, frozen, act, exit_by, exit_after}
unfoldable pub use Rattle.points.specs.Run.{exit_insts}
pub use Rattle.lowering.specs.Lowered.{HasFewLeaves, scratch, placed, above, computed, computed_by, computed_from, maker_of, stack_height}
pub use Rattle.lowering.specs.Trees.{Tree, Sample, TreeMachine, chosen}
unfoldable pub use Rattle.lowering.specs.Trees.{sample}
