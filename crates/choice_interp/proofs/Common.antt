-- What proofs of this crate cite of std, of other crates and of its definitions, passed on from one place. Declares nothing.
pub use Rattle.std.proofs.Common.{◌≡◌, ℕ, ◌+◌, ◌%◌, ◌^◌, ◌<◌, ◌≤◌, List, [], ◌∷◌, length, drop, get_or, refl, arith, nat_le, if◌then◌else◌, Bool, true, false, inl, inr, zero, suc, map, Option, Some, None, sym, ap, subst, ◌∙◌, ◌&&◌, eq-eqb, ◌≢◌, ◌-◌, ◌||◌, ◌++◌, take, replicate, rules, bit_and, ◌*◌}
pub use Rattle.std.proofs.Math.Nat.{mod-eq_of_lt, mod-mod, zero-mod}
pub use Rattle.std.proofs.lemmas.Bool.{lt-ltb, le-ltb, cases_lt, le-leb, or_parts}
pub use Rattle.std.specs.List.{filter, list_any}
pub use Rattle.std.specs.Prelude.{slice_get, All}
pub use Rattle.byte_block.specs.declared.block.MemoryBlock.{MemoryBlock}
pub use Rattle.byte_block.specs.declared.value.BlockName.TheVariants.{Null, Given, Local}
pub use Rattle.byte_block.specs.declared.value.Value.{Value}
pub use Rattle.byte_block.specs.declared.value.Value.TheVariants.{Num, Poison}
pub use Rattle.ir_tree.specs.declared.tree.Block.{Block}
pub use Rattle.ir_tree.specs.declared.tree.Phi.{Phi}
pub use Rattle.memory_access.specs.Blocks.{equal_names, block_bytes, names}
pub use Rattle.points.proofs.Runs.{exit_goes, exit_stops, exit_ends, run_broken, run_unbroken}
pub use Rattle.points.specs.Run.{index_value, index_values, Run, Exit, To, Over, ended, phi_value, with_phis, assigned, exit_of, Go, jump, go_on, is_given, breaks_noundef, with_args, act}
unfoldable pub use Rattle.points.specs.Run.{forward, run_turns, exit_insts}
pub use Rattle.points.specs.declared.machine.Machine.{Machine}
pub use Rattle.points.specs.declared.outcome.Outcome.TheVariants.{Ub}
pub use Rattle.choice_interp.specs.Left.{assign_all, left_by, exit_with, IsJump}
pub use Rattle.choice_interp.specs.declared.ending.Ending.{Ending}
