-- What proofs of this crate cite of std, of other crates and of its definitions, passed on from one place. Declares nothing.
pub use Rattle.std.proofs.Common.{ℕ, zero, suc, ◌≡◌, ◌<◌, ◌≤◌, ◌+◌, ◌++◌, inl, inr, List, [], ◌∷◌, Some, None, slice_get, take, length, arith, sym, ap, subst, refl, ◌∙◌, ◌-◌, false, nat_eq, ◌⊎◌, get_or, get_or-set_same, get_or-set_other, Option, drop, ◌*◌, append_assoc, Result, Ok, Err, OnOk, unwrap_or, map, ◌/◌, ◌%◌, Bool, true, cond, eqb, eq-eqb}
pub use Rattle.std.proofs.Math.ListN.{set, length-set}
pub use Rattle.std.proofs.lemmas.Bool.{cases_eq, ne_eqb, cases_Bool, eqb-true, eqb-false, both_ways}
pub use Rattle.std.proofs.lemmas.List.{take-append-le, take_all, take-append-drop, take_more}
pub use Rattle.std.proofs.lemmas.Option.{slice_get_within, slice_get-get_or, get_or_from_slice_get, slice_get_read}
pub use Rattle.std.specs.List.{swap_remove}
pub use Rattle.clause_lits.specs.Meaning.{opposite_of, IsClause}
pub use Rattle.clause_lits.specs.declared.lit.Lit.{Lit}
pub use Rattle.clause_log.proofs.Membership.{opposite-opposite}
pub use Rattle.clause_log.specs.Chain.{clause_numbered}
pub use Rattle.clause_log.specs.Members.{Has}
pub use Rattle.clause_log.specs.declared.step.Step.{Step}
pub use Rattle.clause_search.proofs.ByPlace.{stands-take, trail-take}
pub use Rattle.clause_search.proofs.Counting.{in_range, length-trail}
pub use Rattle.clause_search.proofs.Findings.{among-numbered}
pub use Rattle.clause_search.proofs.Getting.{get-kept, get-early, get-late, length-push, get-last, get-take, get-taken}
pub use Rattle.clause_search.proofs.Leastness.{stands-left, stands-right}
pub use Rattle.clause_search.proofs.Searches.{search-unit, search-consistent, search-falls, search-decide, search-sat, search-spent, search-careful-more, search-refutes}
pub use Rattle.clause_search.proofs.Seeing.{unassigned-from}
pub use Rattle.clause_search.specs.Ending.{left_of}
pub use Rattle.clause_search.specs.Findings.{IsUnitAt, IsFalseAt}
pub use Rattle.clause_search.specs.Searching.{IsSearch, standing, AreInRange}
pub use Rattle.clause_search.specs.Trail.{IsFalse, Stands, IsConsistent, IsSettled, FalseBut, IsTrail, IsUnassigned, IsUnready, AllFalse}
pub use Rattle.clause_search.specs.declared.learning.Learned.{Learned}
pub use Rattle.clause_search.specs.declared.trail.Entry.{Entry}
unfoldable pub use Rattle.watch_solver.specs.Codes.{index_of, lit_of}
pub use Rattle.watch_solver.specs.Free.{IsFree}
pub use Rattle.watch_solver.specs.Kept.{AreKept, IsWatch, AreFree, AreKeptBack, IsKept, AreLinked, AreApart, IsPair}
pub use Rattle.watch_solver.specs.Lists.{list_of, with_list, with_watch, HasFrom}
pub use Rattle.watch_solver.specs.Starts.{IsStart, IsStarted, IsUndecided}
pub use Rattle.watch_solver.specs.Verdicts.{IsMove, IsOneOf, IsTrueBy, IsOther}
pub use Rattle.watch_solver.specs.Walks.{IsWalk, IsWatched, IsAdded, IsRoomy, AreVisited}
pub use Rattle.watch_solver.specs.declared.code.Code.{Code}
pub use Rattle.watch_solver.specs.declared.watches.Pair.{Pair}
pub use Rattle.watch_solver.specs.declared.watches.Watch.{Watch}
