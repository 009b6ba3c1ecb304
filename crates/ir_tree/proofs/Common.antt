-- What proofs of this crate cite of std, of other crates and of its definitions, passed on from one place. Declares nothing.
pub use Rattle.std.proofs.Common.{◌≡◌, ℕ, ◌+◌, ◌<◌, List, [], ◌∷◌, ◌++◌, length, map, drop, get_or, nat_eq, ◌==◌, cond, true, false, Some, inl, inr, refl, sym, ap, ◌∙◌, arith, ◌⊎◌, Bool, not, Option, None, set, length-set, zero, suc, ◌≤◌, slice_get, subst, All, Contains, ◌*◌, ◌%◌, ◌-◌, min, take, length-append, append-nil, get_or-append-add, zero-add, sum_by, ◌^◌}
pub use Rattle.std.proofs.lemmas.Bool.{cases_Bool, cases_eq, cases_lt}
pub use Rattle.std.proofs.lemmas.List.{drop_more, append_assoc, get_or-set_same, get_or-set_other, length-map, get_or_append_left}
pub use Rattle.std.proofs.lemmas.Option.{slice_get-get_or, slice_get_within, get_or_from_slice_get, none-some, same_Some}
pub use Rattle.std.specs.List.{position_or_len, flat_map, AllByRecursion, find}
pub use Rattle.std.specs.Option.{option_map_or}
pub use Rattle.tv_num.specs.declared.Width.{Width}
pub use Rattle.ir_tree.specs.Definitions.{IsDefinition, IsFirstDefinition, AreFirst, DefinesIn}
pub use Rattle.ir_tree.specs.Flow.{targets, block_of, results_of}
pub use Rattle.ir_tree.specs.Limits.{HasSmallArrays, instructions_of}
pub use Rattle.ir_tree.specs.SiteLists.{with_part, with_parts}
pub use Rattle.ir_tree.specs.Sites.{sites, parts, has_case, operand_site, indices_sites, inst_sites, entry_sites, phi_sites, cases_sites, terminator_sites, Step, sites_in, parts_in, block_steps, blocks_steps, phi_steps, inst_steps, parameter_steps, label_sites, header_sites, parameter_sites}
unfoldable pub use Rattle.ir_tree.specs.Sites.{steps}
pub use Rattle.ir_tree.specs.Types.{one_bit, nested_size}
pub use Rattle.ir_tree.specs.WellFormed.{IsUndefinedBefore, DefinesAgain, IsLabel, IsFirstSite, IsTestedAs, IsWellFormed, refusal_at, OneRefusal, RefusedIsNotWellFormed, IsFirstFailure}
pub use Rattle.ir_tree.specs.declared.sites.Part.{Part}
pub use Rattle.ir_tree.specs.declared.sites.Site.{Site}
pub use Rattle.ir_tree.specs.declared.sites.Site.TheVariants.{Defines, Uses, Enters, Written}
pub use Rattle.ir_tree.specs.declared.tree.Block.{Block}
pub use Rattle.ir_tree.specs.declared.tree.Case.{Case}
pub use Rattle.ir_tree.specs.declared.tree.Function.{Function}
pub use Rattle.ir_tree.specs.declared.tree.Inst.{Inst}
pub use Rattle.ir_tree.specs.declared.tree.IrType.{IrType}
pub use Rattle.ir_tree.specs.declared.tree.Operand.{Operand}
pub use Rattle.ir_tree.specs.declared.tree.Operand.TheVariants.{Local, Number, Null, Poison, Undef}
pub use Rattle.ir_tree.specs.declared.tree.Parameter.{Parameter}
pub use Rattle.ir_tree.specs.declared.tree.Phi.{Phi}
pub use Rattle.ir_tree.specs.declared.tree.PhiEntry.{PhiEntry}
