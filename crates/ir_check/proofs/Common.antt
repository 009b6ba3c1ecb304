-- What proofs of this crate cite of std, of other crates and of its definitions, passed on from one place. Declares nothing.
pub use Rattle.std.proofs.Common.{◌≡◌, ◌↔◌, IsTrue, true, false, ℕ, ◌<◌, ◌⊎◌, List, Option, Some, None, length, inl, inr, refl, arith, [], ◌∷◌, ◌++◌, take, ◌+◌, get_or, set, slice_get, replicate, ap, sym, subst, ◌∙◌, length-set, All, Contains, ◌≤◌, ◌%◌, ◌^◌, ◌==◌, drop, take-append-drop, map, Any, suc, rules}
pub use Rattle.std.proofs.lemmas.Bool.{cases_eq, cases_lt, both_ways, true_from_ne_false}
pub use Rattle.std.proofs.lemmas.Bool.Decides.{nat_tests}
pub use Rattle.std.proofs.lemmas.List.{take_more, get_or_default, get_or-set_same, get_or-set_other, get_or-replicate, length-replicate, get_or_past, length-map, map-set, take_all, replicate_more}
pub use Rattle.std.proofs.lemmas.List.Elements.{Contains-append_left, Contains-get_or, Contains-push, Contains-push_cases}
pub use Rattle.std.proofs.lemmas.Option.{slice_get_within, slice_get_read, get_or_from_slice_get, same_Some}
pub use Rattle.std.specs.List.{list_any}
pub use Rattle.ir_tree.proofs.Definers.{all_at, defined_at, entered_at, made_of, makes}
pub use Rattle.ir_tree.proofs.Failures.{failure, no_failure}
pub use Rattle.ir_tree.specs.Sites.{AreNumbered, IsNumbered, sites, parts}
pub use Rattle.ir_tree.specs.WellFormed.{DefinesAgain, IsLabel, UsesUnknown, ComesFromPredecessors, HasTwoOperands, HasWrongEdge, is_same_operand, ClashesType}
pub use Rattle.ir_tree.specs.declared.sites.Site.TheVariants.{Defines, Uses, Enters}
pub use Rattle.ir_tree.specs.declared.tree.IrType.{IrType}
pub use Rattle.ir_tree.specs.declared.tree.Phi.{Phi}
pub use borrow.Author.Count.{below_more}
pub use Rattle.ir_check.specs.Marks.{LeadsIn, ArePredecessors, IsUnfit, IsUnfitAt, IsUnfitEntry, HasUnfitEntry, HasNoEntry, HasOneOperand, IsMarkOf, AreMarked, is_awaited, mark_in, marks_in}
pub use Rattle.ir_check.specs.declared.marks.Mark.{Mark}
pub use Rattle.ir_check.specs.declared.marks.Mark.TheVariants.{Stranger, Awaited, Given}
