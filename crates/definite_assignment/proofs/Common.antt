-- What proofs of this crate cite of std, of other crates and of its definitions, passed on from one place. Declares nothing.
pub use Rattle.std.proofs.Common.{ℕ, suc, zero, ◌+◌, ◌*◌, ◌/◌, ◌%◌, ◌^◌, ◌≡◌, ◌≢◌, ◌<◌, ◌≤◌, ◌⊎◌, inl, inr, Bool, true, false, cond, ◌&&◌, List, [], ◌∷◌, length, get_or, set, replicate, min, refl, ap, sym, ◌∙◌, arith, bit_and, bit_or, length-set, ◌-◌, ◌++◌, subst, ◌||◌, map, rules, take}
pub use Rattle.std.proofs.lemmas.Bool.{cases_eq, cases_lt, and_right, cases_Bool, both_ways, false_from_ne_true, or_parts, or_cases, and_parts, and_from}
pub use Rattle.std.proofs.lemmas.List.{same_lists, get_or_past, get_or-set_same, get_or-set_other, get_or-replicate, length-replicate, get_or_default, replicate_more, set-get_or, get_or-map, length-map, take_all, take_more, with_items_is}
pub use Rattle.std.proofs.lemmas.List.Elements.{All-contains, Contains-append_cases, Contains-append_right, All-nil, All-cons, Contains-append_left, Contains-push, All-pop, All-map, Contains-get_or, Contains-push_cases, All-same, All-push, All-more}
pub use Rattle.std.proofs.lemmas.List.Sums.{sum_by-cons, sum_by-set}
pub use Rattle.std.proofs.lemmas.Option.{get_or_from_slice_get}
pub use Rattle.std.specs.List.{All, Contains, sum_by}
pub use Rattle.std.specs.Prelude.{nat_eq, IsTrue, Some, slice_get, ◌↔◌, IfSome}
pub use Rattle.ir_tree.specs.Paths.{Assigns, IsAssignedBefore, IsAssignedIn, IsSuccessor, IsUnassignedBefore}
pub use Rattle.definite_assignment.specs.Order.{block_of, steps_left}
pub use Rattle.definite_assignment.specs.Sets.{both, has_bit, has_name, AreRoomy, has, places_for, by_columns, column_of}
unfoldable pub use Rattle.definite_assignment.specs.Sets.{names_in}
pub use Rattle.definite_assignment.specs.Work.{count, IsLeaving, IsSearch, IsSpread, State, first_sets, is_waiting, rest_of, set_of, state_of}
