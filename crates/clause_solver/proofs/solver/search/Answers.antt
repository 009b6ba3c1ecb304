-- Each round implies a literal, decides one or learns a clause.
use Rattle.std.proofs.Common.{sym}
use Rattle.clause_search.proofs.Searches.{search-consistent, search-unit, search-decide, search-falls, search-sat, search-spent, search-refutes, search-careful-more}
use Rattle.clause_solver.proofs.solver.search.Goals as goal

pub find-requires : goal.find-requires
find-requires c = search-consistent c.args.variables c.args.clauses.now c.search.log c.search.trail c.search.invariant

pub search-smaller-in_ok-push-in-Unit : goal.search-smaller-in_ok-push-in-Unit
search-smaller-in_ok-push-in-Unit c =
    search-falls c.args.variables c.args.clauses.now c.search.log c.search.trail c.search.invariant _ c.push.new.self c.in_ok-push-in-Unit.ensures.ok

pub search-preserved-in_ok-push-in-Unit : goal.search-preserved-in_ok-push-in-Unit
search-preserved-in_ok-push-in-Unit c =
    search-unit c.args.variables c.args.clauses.now c.search.log c.search.trail c.search.invariant c.in-Unit.number c.in-Unit.literal c.push.new.self
    (rw c.as_slice.ensures at c.in-Unit.ensures) c.in_ok-push-in-Unit.ensures.ok

pub search-smaller-in_ok-push-in-Nothing : goal.search-smaller-in_ok-push-in-Nothing
search-smaller-in_ok-push-in-Nothing c =
    search-falls c.args.variables c.args.clauses.now c.search.log c.search.trail c.search.invariant _ c.push-in-Nothing.new.self c.in_ok-push-in-Nothing.ensures.ok

pub search-preserved-in_ok-push-in-Nothing : goal.search-preserved-in_ok-push-in-Nothing
search-preserved-in_ok-push-in-Nothing c =
    search-decide c.args.variables c.args.clauses.now c.search.log c.search.trail c.search.invariant c.in-Some.variable c.push-in-Nothing.new.self
    (rw c.as_slice.ensures at c.in-Nothing.ensures) c.in-Some.ensures c.in_ok-push-in-Nothing.ensures.ok

pub next_variable-requires : goal.next_variable-requires
next_variable-requires c = (_, c.search.invariant.trail_is)

pub returns-in_default : goal.returns-in_default
returns-in_default c =
    search-sat c.args.variables c.args.clauses.now c.search.log c.search.trail c.search.invariant c.args.front c.in_ok-values-in-Nothing.field-0 c.requires.front c.requires.in_range
    (rw c.as_slice.ensures at c.in-Nothing.ensures) c.in_default.ensures c.in_ok-values-in-Nothing.ensures

pub returns-in_default-last_decision : goal.returns-in_default-last_decision
returns-in_default-last_decision c =
    let step = c.in_ok-step-in-Conflict.step in
    let empty = rw c.as_slice-in_default-last_decision.ensures at c.in_ok-step-in-Conflict.ensures in
    rw c.in_ok-push-in-Conflict.ensures.ok
    (search-refutes c.args.variables c.args.clauses.now c.search.log c.search.trail c.search.invariant step empty, search-careful-more c.args.variables c.args.clauses.now c.search.log c.search.trail c.search.invariant step empty)

pub returns-then-is_spent : goal.returns-then-is_spent
returns-then-is_spent c =
    let told = c.is_spent.ensures.0 c.if-is_spent.true in
    (_, told, search-spent c.args.variables c.args.clauses.now c.search.log c.search.trail c.search.invariant _ (sym c.len.ensures))
