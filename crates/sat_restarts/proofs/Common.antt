-- What proofs of this crate cite of std, of other crates and of its definitions, passed on from one place. Declares nothing.
pub use Rattle.std.proofs.Common.{ℕ, ◌≡◌, ◌+◌, ◌++◌, Bool, List, Option, Some, length, map, sym, subst, ◌<◌, true, [], ◌∷◌, refl, zero, suc, ◌≤◌, ◌-◌, ◌⊎◌, inl, inr, slice_get, take, arith, ap, ◌∙◌, length-append, option_and_then, get_or, false, None}
pub use Rattle.std.proofs.Math.Seq.{take-length, take-append_seam}
pub use Rattle.std.proofs.lemmas.Bool.{and_from, and_parts, cases_eq, true≢false}
pub use Rattle.std.proofs.lemmas.Option.{slice_get_within, cond_some, option_and_then_some, same_Some, get_or_from_slice_get}
pub use Rattle.std.specs.Vec.Iter.{into_iter_items}
pub use Rattle.clause_lits.specs.Meaning.{AreWithin, IsModel, clause_true, clauses_true, values_of}
pub use Rattle.clause_lits.specs.declared.lit.Lit.{Lit}
pub use Rattle.clause_log.proofs.Soundness.{standing-true, refuted-false}
pub use Rattle.clause_log.specs.Chain.{chain_resolvent, clause_numbered, resolved_along}
pub use Rattle.clause_log.specs.Members.{Has}
pub use Rattle.clause_log.specs.Refutation.{AreSound, Refutes, IsSoundAt, standing_before}
pub use Rattle.clause_log.specs.declared.step.Step.{Step}
pub use Rattle.clause_search.specs.Outcome.{IsLess}
pub use Rattle.clause_search.specs.Searching.{standing, AreInRange}
pub use Rattle.sat_restarts.specs.Settled.{Agree, IsExtended, IsFound, IsSettled}
