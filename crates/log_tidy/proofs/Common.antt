-- What proofs of this crate cite of std, of other crates and of its definitions, passed on from one place. Declares nothing.
pub use Rattle.std.proofs.Common.{ℕ, ◌≡◌, ◌<◌, ◌+◌, ◌-◌, ◌++◌, ◌⊎◌, inl, inr, Bool, true, false, List, [], ◌∷◌, Some, length, get_or, slice_get, arith, sym, ap, subst, refl, ap₂, ◌∙◌, zero, suc, take, map, cond, ltb, IsTrue, ◌↔◌, ◌%◌, None, option_and_then, ◌≤◌, Option, drop, append_assoc, length-append}
pub use Rattle.std.proofs.lemmas.Bool.{cases_eq, cases_lt, ltb-true, ltb-false, cases_Bool, false≢true, le-ltb, lt-ltb, ne_eqb, both_ways}
pub use Rattle.std.proofs.lemmas.List.{get_or-replicate, get_or_past, length-replicate, length-set, length_push, take_more, drop_all, drop_more, take-append-le, get_or_append_left, length-map, length-take, length-take-le, take_all}
pub use Rattle.std.proofs.lemmas.Option.{slice_get_within, get_or_from_slice_get, option_and_then_some, slice_get_read}
pub use Rattle.std.proofs.lemmas.Result.{IfOk-weaker, on_ok_weaker}
pub use Rattle.std.specs.Prelude.{slice_set, replicate, bit_or, ◌^◌, ◌*◌, ◌/◌}
pub use Rattle.clause_lits.specs.Meaning.{IsClause, RisesFrom, opposite_of}
pub use Rattle.clause_lits.specs.declared.lit.Lit.{Lit}
pub use Rattle.clause_log.proofs.Membership.{rises-has, one_clash}
pub use Rattle.clause_log.specs.Chain.{chain_resolvent, clause_numbered, resolved_along}
pub use Rattle.clause_log.specs.Members.{Has}
pub use Rattle.clause_log.specs.Refutation.{EndsEmpty, IsSoundAt, Refutes, standing_before}
pub use Rattle.clause_log.specs.Resolution.{Resolves, joined, resolvent}
pub use Rattle.clause_log.specs.declared.step.Step.{Step}
pub use Rattle.clause_search.proofs.Getting.{get-kept, get-last, get-taken, get-early, get-late}
pub use Rattle.clause_search.specs.Outcome.{ContainsClause, IsCareful}
pub use Rattle.clause_search.specs.Searching.{standing}
pub use Rattle.log_tidy.specs.Inclusion.{included, included_at, IsWithin}
pub use Rattle.log_tidy.specs.Indexed.{AreNone, IsEntered, IsFound, IsIndexed, IsListed, IsPut, IsSized, Covers, bits, signature, slot, IsHit}
pub use Rattle.log_tidy.specs.Linked.{AreParts, AreSame, AreShorter, IsDerived, IsNumbered, IsResolved, Resolve}
pub use Rattle.log_tidy.specs.Marks.{AreMarked, IsBelow, IsMarked, IsMarking}
pub use Rattle.log_tidy.specs.Numbers.{new_number, renumbered_step}
pub use Rattle.log_tidy.specs.Tidied.{AreTidied, IsAdded, RefutesCarefully}
pub use Rattle.log_tidy.specs.Trimmed.{AreKept, IsFrom, IsMoved, IsTrimmed}
pub use Rattle.log_tidy.specs.declared.index.Entry.{Entry}
pub use Rattle.log_tidy.specs.declared.index.Index.{Index}
pub use Rattle.log_tidy.specs.declared.index.Signature.{Signature}
