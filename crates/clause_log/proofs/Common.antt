-- What proofs of this crate cite of std, of other crates and of its definitions, passed on from one place. Declares nothing.
pub use Rattle.std.proofs.Common.{ℕ, ◌≡◌, ◌<◌, ◌⊎◌, inl, inr, Bool, true, false, not, cond, List, [], ◌∷◌, Option, Some, None, arith, sym, ap, subst, refl, ◌∙◌, option_and_then, zero, suc, ◌+◌, ◌-◌, ◌++◌, length, slice_get, take, map, ltb, eqb, get_or, drop, ◌≤◌, Result, Ok, Err, set, ◌↔◌, IfOk, IsTrue, below_more, append_assoc, option_copied}
pub use Rattle.std.proofs.Math.Seq.{take-length}
pub use Rattle.std.proofs.lemmas.Bool.{cases_Bool, cases_eq, false≢true, true≢false, ltb-false, eqb-true, and_parts, and_from, or_cases, or_left, or_right, eq-eqb, ne_eqb, ltb-true}
pub use Rattle.std.proofs.lemmas.List.{drop_more, get_or-set_same, get_or-set_other}
pub use Rattle.std.proofs.lemmas.Map.Keys.{sorted_from_strictly_increasing, below_from_sorted, IsStrictlyIncreasing-dedup}
pub use Rattle.std.specs.List.{All, count_by, AllZip, range_with_len}
pub use Rattle.std.specs.List.Sorted.{IsStrictlyIncreasing, IsBinarySearchResult}
pub use Rattle.std.specs.Ordering.{nat_cmp}
pub use Rattle.clause_lits.specs.Meaning.{RisesFrom, IsClause, opposite_of, lit_true, clause_true, clauses_true, values_of}
pub use Rattle.clause_lits.specs.declared.lit.Lit.{Lit}
pub use Rattle.clause_log.specs.Chain.{clause_numbered, resolved_along, chain_resolvent}
pub use Rattle.clause_log.specs.Marking.{AreSigns, unmarked, sign_in, sign_at, sign_of, AreMarks, AreJoined}
pub use Rattle.clause_log.specs.Members.{Has}
pub use Rattle.clause_log.specs.Placing.{next_index, index_of, place_of}
pub use Rattle.clause_log.specs.Refutation.{standing_before, IsSoundAt, EndsEmpty, Refutes}
pub use Rattle.clause_log.specs.Resolution.{joined, clashes, joined_at, clashes_at, resolvent, same_sign, Resolves, IsResolventOf}
pub use Rattle.clause_log.specs.declared.mark.Mark.{Mark}
pub use Rattle.clause_log.specs.declared.marks.Marks.{Marks}
pub use Rattle.clause_log.specs.declared.places.Places.{Places}
pub use Rattle.clause_log.specs.declared.step.Step.{Step}
