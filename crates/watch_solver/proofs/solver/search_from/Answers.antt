-- Each round implies literals, decides one or learns a clause.
use Rattle.watch_solver.proofs.Common.{◌≡◌, None, arith, sym, search-decide, search-falls, search-sat, search-spent}
use Rattle.watch_solver.proofs.Deciding.{decided-kept, decided-watched, propagated-settled}
use Rattle.watch_solver.proofs.solver.search_from.Goals as goal

pub search-smaller-then-branch : goal.search-smaller-then-branch
search-smaller-then-branch c =
    let s = rw c.as_slice-steps.ensures at c.in_ok-number.ensures.search in
    let some = rw c.if-branch.true at c.in_ok-decide.ensures in
    let less = search-falls c.args.variables c.args.clauses.now c.search.log c.propagate.new.trail s _ c.decide.new.trail some.2 in
    omega (arith, less, c.in_ok-number.ensures.left)

pub search-preserved-then-branch : goal.search-preserved-then-branch
search-preserved-then-branch c =
    let s = rw c.as_slice-steps.ensures at c.in_ok-number.ensures.search in
    let watched = rw c.as_slice-steps.ensures at c.in_ok-number.ensures.watched in
    let none : c.in_ok-number.field-0 ≡ None = c.in_default.is in
    let told = rw none at c.in_ok-number.ensures.kept in
    let kept = rw c.as_slice-steps.ensures at told in
    let some = rw c.if-branch.true at c.in_ok-decide.ensures in
    let settled = propagated-settled c.args.variables c.args.clauses.now c.search.log c.propagate.new.trail c.propagate.new.watches.pairs.items c.propagate.new.watches.lists.items watched kept s in
    record {
      search = search-decide c.args.variables c.args.clauses.now c.search.log c.propagate.new.trail s some.0 c.decide.new.trail settled some.1 some.2;
      watched = decided-watched c.args.variables c.args.clauses.now c.search.log c.propagate.new.trail c.propagate.new.watches.pairs.items c.propagate.new.watches.lists.items watched kept _ c.decide.new.trail some.2;
      kept =
          decided-kept c.args.variables c.args.clauses.now c.search.log c.propagate.new.trail c.propagate.new.watches.pairs.items c.propagate.new.watches.lists.items watched kept _ c.decide.new.trail some.2
          c.len-done.result c.len-done.ensures;
    }

pub returns-in_default : goal.returns-in_default
returns-in_default c =
    let s = rw c.as_slice-steps.ensures at c.in_ok-number.ensures.search in
    let watched = rw c.as_slice-steps.ensures at c.in_ok-number.ensures.watched in
    let none : c.in_ok-number.field-0 ≡ None = c.in_default.is in
    let told = rw none at c.in_ok-number.ensures.kept in
    let kept = rw c.as_slice-steps.ensures at told in
    let last = rw c.if-branch.false at c.in_ok-decide.ensures in
    let settled = propagated-settled c.args.variables c.args.clauses.now c.search.log c.propagate.new.trail c.propagate.new.watches.pairs.items c.propagate.new.watches.lists.items watched kept s in
    search-sat c.args.variables c.args.clauses.now c.search.log c.propagate.new.trail s c.args.front c.in_ok-values.field-0 c.requires.front c.requires.in_range settled last.0
    (rw last.1 at c.in_ok-values.ensures)

pub returns-then-is_spent : goal.returns-then-is_spent
returns-then-is_spent c =
    let told = c.is_spent.ensures.0 c.if-is_spent.true in
    (_, told, search-spent c.args.variables c.args.clauses.now c.search.log c.propagate.new.trail (rw c.as_slice-steps.ensures at c.in_ok-number.ensures.search) _ (sym c.len.ensures))
