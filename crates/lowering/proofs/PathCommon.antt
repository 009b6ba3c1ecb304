-- What the proofs on paths and sites cite, passed on from one place. Declares nothing.
pub use Rattle.lowering.proofs.PresentCommon.{◌≡◌, ◌⊎◌, ◌↔◌, ℕ, zero, suc, ◌+◌, ◌-◌, ◌<◌, ◌≤◌, Bool, true, false, cond, ◌||◌, ◌&&◌, ◌==◌, nat_lt, nat_le, IsTrue, List, [], ◌∷◌, ◌++◌, length, get_or, map, take, slice_get, All, Contains, Option, Some, None, inl, inr, refl, sym, ap, subst, ◌∙◌, arith, flat_map, find, list_any, AllByRecursion, cases_Bool, cases_eq, cases_lt, both_ways, nat_tests, length-map, Contains-append_left, Contains-append_right, Contains-append_cases, none-some, same_Some, slice_get_within, get_or_from_slice_get, Width, IrType, Operand, TypedOperand, GepIndex, Inst, Phi, PhiEntry, Case, Terminator, Block, Parameter, Function, one_bit, results_of, block_of, targets, successors, assigns, assigned_with, carrying_operands, insts_of, makes, carried_from, carried_by, leaf_count, carries, is_division, refuses_undef, end_refuses_undef, counts_agree, HasFewLeaves, maker_of}
pub use Rattle.ir_tree.specs.Paths.{IsSuccessor, Assigns, IsPathTo, IsAssignedIn}
pub use Rattle.ir_tree.specs.Definitions.{DefinesIn}
pub use Rattle.ir_tree.specs.Operands.{operands_of, returned_operands, operands_at_end}
pub use Rattle.ir_tree.specs.Carrying.{UsesUndef, RefusesUndef}
pub use Rattle.ir_tree.specs.Sites.{AreNumbered, IsNumbered, sites, parts, operand_site, typed_sites, index_sites, indices_sites, inst_sites, entry_sites, phi_sites, cases_sites, terminator_sites}
pub use Rattle.ir_tree.specs.WellFormed.{Passes, IsMissed, UsesUnassigned, IsWellFormed}
pub use Rattle.ir_tree.specs.declared.module.Reason.TheVariants.{NameTwice, Unassigned, UndefUse}
pub use Rattle.ir_tree.specs.declared.sites.Part.{Part}
pub use Rattle.ir_tree.specs.declared.sites.Site.{Site}
pub use Rattle.ir_tree.specs.declared.sites.Site.TheVariants.{Defines, Uses, Enters, Written}
pub use Rattle.ir_tree.proofs.Definers.{made_of, one_site, defined_at, all_at}
pub use Rattle.ir_tree.proofs.Standing.{behind, phi_site, inst_site, end_site}
