-- What proofs of this crate cite of std, of other crates and of its definitions, passed on from one place. Declares nothing.
pub use Rattle.std.proofs.Common.{ℕ, ◌≡◌, ◌<◌, ◌≤◌, ◌+◌, ◌-◌, inl, inr, Bool, true, false, not, List, [], Option, Some, None, get_or, length, arith, sym, ap, subst, refl, ◌∙◌, ◌⊎◌, ◌∷◌, drop, take, slice_get, add-one, append_assoc, ◌++◌, cond, zero, suc, ltb, set, map, eqb, ◌↔◌, IsTrue, IsSome, nat_eq, length-append, option_and_then, slice_index, IfSome, ◌*◌, ◌^◌, replicate, rules, slice_index_or}
pub use Rattle.std.proofs.Math.Seq.{drop-cons, take-length}
pub use Rattle.std.proofs.lemmas.Bool.{cases_eq, cases_Bool, false≢true, cases_order, ltb-true, ltb-false, eqb-true, or_cases, ne_eqb, eq-eqb, eqb-false, and_from, and_parts, or_left, or_right, both_ways}
pub use Rattle.std.proofs.lemmas.List.{get_or-set_same, get_or-set_other, get_or_past, length-set, take_more, length-map, take-map, length-take, take_all, get_or-map, take-append-drop, take-append-le}
pub use Rattle.std.proofs.lemmas.List.Sorted.{Contains-permutation, IsPermutation-map, IsPermutation-sym, IsNonDecreasingBy-from_sort_by_key}
pub use Rattle.std.proofs.lemmas.Option.{slice_get-get_or, get_or_from_slice_get, slice_get_within, slice_get_read, slice_get-map}
pub use Rattle.std.specs.List.{list_any, AllByRecursion, Contains, refill, All}
unfoldable pub use Rattle.std.specs.List.{IsDistinct}
pub use Rattle.clause_lits.specs.Meaning.{lit_true, opposite_of, values_of, clause_true, IsClause, RisesFrom, clauses_true, IsModel, AreWithin}
pub use Rattle.clause_lits.specs.declared.lit.Lit.{Lit}
pub use Rattle.clause_log.proofs.Joining.{rises-joined, resolvent-one}
pub use Rattle.clause_log.proofs.Membership.{opposite-opposite, rises-has, same_members, one_clash, gone_joined, from_joined, right_joined, like, unlike}
pub use Rattle.clause_log.proofs.Soundness.{Holds, holds_from, standing-true, from_holds}
pub use Rattle.clause_log.specs.Chain.{clause_numbered, resolved_along, chain_resolvent}
pub use Rattle.clause_log.specs.Members.{Has}
pub use Rattle.clause_log.specs.Refutation.{standing_before, IsSoundAt, Refutes}
pub use Rattle.clause_log.specs.Resolution.{Resolves, joined, resolvent, clashes, same_sign}
pub use Rattle.clause_log.specs.declared.step.Step.{Step}
pub use Rattle.clause_search.specs.Assigning.{AreAssigned, AreImplied, IsLastBelow, TellsAll, IsNextVariable}
pub use Rattle.clause_search.specs.Ending.{digit_of, code_of, left_of}
pub use Rattle.clause_search.specs.Findings.{IsFalseAt, IsUnitAt, AreOpen, IsFound, IsFoundBetween}
pub use Rattle.clause_search.specs.Learning.{IsBack, IsLastDecision, IsLearned, IsDecisionAt}
pub use Rattle.clause_search.specs.Looks.{IsOpen, IsUnit, IsSeen}
pub use Rattle.clause_search.specs.Marking.{HasVariable, AreMarked, IsCounted, IsSingle, IsSpread, IsMarkedBack, marked_from, opposites_at, AreApart}
pub use Rattle.clause_search.specs.Outcome.{IsLeast, IsCareful, IsSpent, IsLess}
pub use Rattle.clause_search.specs.Placing.{IsPlaceOf, entries_of, ArePlaced, AreLast}
pub use Rattle.clause_search.specs.Searching.{standing, AreInRange, IsNew, IsSearch, IsEmptyStep}
pub use Rattle.clause_search.specs.Trail.{Stands, IsAssigned, IsConsistent, IsTrail, IsFalse, FalseBut, IsDecision, IsGrounded, AllFalse, IsImplied, IsUnassigned, literal_eq, IsUnready, IsSettled}
pub use Rattle.clause_search.specs.declared.learning.Learned.{Learned}
pub use Rattle.clause_search.specs.declared.marks.Marks.{Marks}
pub use Rattle.clause_search.specs.declared.trail.Entry.{Entry}
pub use Rattle.clause_search.specs.declared.trail.Mark.{Mark}
