-- Each look keeps what holds all along the walk.
use Rattle.watch_solver.proofs.Common.{◌∙◌, arith, ap, sym, Lit, search-consistent, search-falls, lit_of}
use Rattle.watch_solver.proofs.Walking.{falsified-range, length-elsewhere, length-moved, length-true, walk-clause, walk-elsewhere, walk-end, walk-false, walk-moved, walk-place, walk-place_kept, walk-room, walk-start, walk-true, walk-unit, walk-watch, walk-within}
use Rattle.watch_solver.proofs.propagation.visit.Goals as goal

pub of-falsified-requires : goal.of-falsified-requires
of-falsified-requires c =
    omega (
      arith,
      falsified-range c.args.variables c.args.clauses.now c.args.log.now c.args.trail.now c.args.done c.get.result c.requires.search c.get.ensures,
      ap (λ (l : Lit). l.variable) c.opposite.ensures,
    )

pub walk-init : goal.walk-init
walk-init c = record {
  walk =
      walk-start c.args.variables c.args.clauses.now c.args.log.now c.args.watches.now.pairs.items c.args.watches.now.lists.items c.args.trail.now c.args.done (lit_of c.of-falsified.result) c.get.result
      c.requires.search c.requires.watched c.requires.kept c.get.ensures (c.of-falsified.ensures ∙ c.opposite.ensures);
  left = omega arith;
}

pub look_at-requires-clause-watch : goal.look_at-requires-clause-watch
look_at-requires-clause-watch c =
    rw c.as_slice.ensures.value (walk-watch c.args.variables c.args.clauses.now c.args.log.now c.walk.watches.pairs.items c.walk.watches.lists.items c.walk.trail c.args.done (lit_of c.of-falsified.result) c.walk.place c.walk.invariant.walk
    c.in-Some.watch (sym c.in-Some.ensures.value))

pub look_at-requires-clause-trail : goal.look_at-requires-clause-trail
look_at-requires-clause-trail c = search-consistent c.args.variables c.args.clauses.now c.args.log.now c.walk.trail c.walk.invariant.walk.search

pub look_at-requires-clause-falsified : goal.look_at-requires-clause-falsified
look_at-requires-clause-falsified c = walk-false c.args.variables c.args.clauses.now c.args.log.now c.walk.watches.pairs.items c.walk.watches.lists.items c.walk.trail c.args.done (lit_of c.of-falsified.result) c.walk.place c.walk.invariant.walk

pub set-requires : goal.set-requires
set-requires c =
    walk-place c.args.variables c.args.clauses.now c.args.log.now c.walk.watches.pairs.items c.walk.watches.lists.items c.walk.trail c.args.done (lit_of c.of-falsified.result) c.walk.place c.walk.invariant.walk
    c.in-Some.watch (sym c.in-Some.ensures.value)

pub walk-smaller-in-True : goal.walk-smaller-in-True
walk-smaller-in-True c =
    let lt = walk-place c.args.variables c.args.clauses.now c.args.log.now c.walk.watches.pairs.items c.walk.watches.lists.items c.walk.trail c.args.done (lit_of c.of-falsified.result) c.walk.place c.walk.invariant.walk
    c.in-Some.watch (sym c.in-Some.ensures.value) in
    let same = length-true c.args.variables c.args.clauses.now c.args.log.now c.walk.watches.pairs.items c.walk.watches.lists.items c.walk.trail c.args.done (lit_of c.of-falsified.result) c.walk.place c.walk.invariant.walk
    c.in-Some.watch (sym c.in-Some.ensures.value) c.in-True.blocker c.set.new.self.lists.items c.set.new.self.pairs.items c.set.ensures.lists c.set.ensures.pairs in
    omega (arith, lt, same)

pub walk-preserved-in-True : goal.walk-preserved-in-True
walk-preserved-in-True c = record {
  walk =
      walk-true c.args.variables c.args.clauses.now c.args.log.now c.walk.watches.pairs.items c.walk.watches.lists.items c.walk.trail c.args.done (lit_of c.of-falsified.result) c.walk.place c.walk.invariant.walk
      c.in-Some.watch (sym c.in-Some.ensures.value) c.in-True.blocker c.set.new.self.lists.items c.set.new.self.pairs.items c.set.ensures.lists c.set.ensures.pairs c.in-True.ensures;
  left = c.walk.invariant.left;
}

pub remove-requires : goal.remove-requires
remove-requires c =
    walk-place c.args.variables c.args.clauses.now c.args.log.now c.walk.watches.pairs.items c.walk.watches.lists.items c.walk.trail c.args.done (lit_of c.of-falsified.result) c.walk.place c.walk.invariant.walk
    c.in-Some.watch (sym c.in-Some.ensures.value)

pub walk-smaller-in-Elsewhere : goal.walk-smaller-in-Elsewhere
walk-smaller-in-Elsewhere c =
    let lt = walk-place c.args.variables c.args.clauses.now c.args.log.now c.walk.watches.pairs.items c.walk.watches.lists.items c.walk.trail c.args.done (lit_of c.of-falsified.result) c.walk.place c.walk.invariant.walk
    c.in-Some.watch (sym c.in-Some.ensures.value) in
    let less = length-elsewhere c.args.variables c.args.clauses.now c.args.log.now c.walk.watches.pairs.items c.walk.watches.lists.items c.walk.trail c.args.done (lit_of c.of-falsified.result) c.walk.place c.walk.invariant.walk
    c.in-Some.watch (sym c.in-Some.ensures.value) c.remove.result c.remove.new.self.lists.items c.remove.new.self.pairs.items c.remove.ensures.lists c.remove.ensures.pairs in
    omega (arith, lt, less)

pub walk-preserved-in-Elsewhere : goal.walk-preserved-in-Elsewhere
walk-preserved-in-Elsewhere c = record {
  walk =
      walk-elsewhere c.args.variables c.args.clauses.now c.args.log.now c.walk.watches.pairs.items c.walk.watches.lists.items c.walk.trail c.args.done (lit_of c.of-falsified.result) c.walk.place c.walk.invariant.walk
      c.in-Some.watch (sym c.in-Some.ensures.value) c.remove.result c.remove.new.self.lists.items c.remove.new.self.pairs.items c.remove.ensures.lists c.remove.ensures.pairs
      (rw c.as_slice.ensures.value at c.in-Elsewhere.ensures);
  left = c.walk.invariant.left;
}

pub watch_pair-requires-clause-clause : goal.watch_pair-requires-clause-clause
watch_pair-requires-clause-clause c =
    walk-clause c.args.variables c.args.clauses.now c.args.log.now c.walk.watches.pairs.items c.walk.watches.lists.items c.walk.trail c.args.done (lit_of c.of-falsified.result) c.walk.place c.walk.invariant.walk
    c.in-Some.watch (sym c.in-Some.ensures.value)

pub watch_pair-requires-clause-room : goal.watch_pair-requires-clause-room
watch_pair-requires-clause-room c =
    walk-room c.args.variables c.args.clauses.now c.args.log.now c.walk.watches.pairs.items c.walk.watches.lists.items c.walk.trail c.args.done (lit_of c.of-falsified.result) c.walk.place c.walk.invariant.walk
    c.in-Some.watch (sym c.in-Some.ensures.value) c.in-Move.pair (rw c.as_slice.ensures.value at c.in-Move.ensures)

pub remove-requires-in-Move : goal.remove-requires-in-Move
remove-requires-in-Move c =
    walk-place_kept c.args.variables c.args.clauses.now c.args.log.now c.walk.watches.pairs.items c.walk.watches.lists.items c.walk.trail c.args.done (lit_of c.of-falsified.result) c.walk.place c.walk.invariant.walk
    c.in-Some.watch (sym c.in-Some.ensures.value) c.in-Move.pair (rw c.as_slice.ensures.value at c.in-Move.ensures)
    c.in-Some.watch c.watch_pair.new.self.lists.items c.watch_pair.new.self.lists.items c.watch_pair.new.self.pairs.items c.watch_pair.new.self.pairs.items
    c.in_ok-watch_pair-in-Move.ensures.lists c.in_ok-watch_pair-in-Move.ensures.pairs

pub walk-smaller-in-Move : goal.walk-smaller-in-Move
walk-smaller-in-Move c =
    let lt = walk-place c.args.variables c.args.clauses.now c.args.log.now c.walk.watches.pairs.items c.walk.watches.lists.items c.walk.trail c.args.done (lit_of c.of-falsified.result) c.walk.place c.walk.invariant.walk
    c.in-Some.watch (sym c.in-Some.ensures.value) in
    let less = length-moved c.args.variables c.args.clauses.now c.args.log.now c.walk.watches.pairs.items c.walk.watches.lists.items c.walk.trail c.args.done (lit_of c.of-falsified.result) c.walk.place c.walk.invariant.walk
    c.in-Some.watch (sym c.in-Some.ensures.value) c.in-Move.pair (rw c.as_slice.ensures.value at c.in-Move.ensures)
    c.remove-in-Move.result c.watch_pair.new.self.lists.items c.remove-in-Move.new.self.lists.items c.watch_pair.new.self.pairs.items c.remove-in-Move.new.self.pairs.items
    c.in_ok-watch_pair-in-Move.ensures.lists c.in_ok-watch_pair-in-Move.ensures.pairs c.remove-in-Move.ensures.lists c.remove-in-Move.ensures.pairs in
    omega (arith, lt, less)

pub walk-preserved-in-Move : goal.walk-preserved-in-Move
walk-preserved-in-Move c = record {
  walk =
      walk-moved c.args.variables c.args.clauses.now c.args.log.now c.walk.watches.pairs.items c.walk.watches.lists.items c.walk.trail c.args.done (lit_of c.of-falsified.result) c.walk.place c.walk.invariant.walk
      c.in-Some.watch (sym c.in-Some.ensures.value) c.in-Move.pair (rw c.as_slice.ensures.value at c.in-Move.ensures)
      c.remove-in-Move.result c.watch_pair.new.self.lists.items c.remove-in-Move.new.self.lists.items c.watch_pair.new.self.pairs.items c.remove-in-Move.new.self.pairs.items
      c.in_ok-watch_pair-in-Move.ensures.lists c.in_ok-watch_pair-in-Move.ensures.pairs c.remove-in-Move.ensures.lists c.remove-in-Move.ensures.pairs;
  left = c.walk.invariant.left;
}

pub walk-smaller : goal.walk-smaller
walk-smaller c =
    let lt = walk-place c.args.variables c.args.clauses.now c.args.log.now c.walk.watches.pairs.items c.walk.watches.lists.items c.walk.trail c.args.done (lit_of c.of-falsified.result) c.walk.place c.walk.invariant.walk
    c.in-Some.watch (sym c.in-Some.ensures.value) in
    omega (arith, lt)

pub walk-preserved : goal.walk-preserved
walk-preserved c =
    let pushed = rw c.from-reason.ensures at c.in_ok-push-in-Unit.ensures.ok in
    record {
      walk =
          walk-unit c.args.variables c.args.clauses.now c.args.log.now c.walk.watches.pairs.items c.walk.watches.lists.items c.walk.trail c.args.done (lit_of c.of-falsified.result) c.walk.place c.walk.invariant.walk
          c.in-Some.watch (sym c.in-Some.ensures.value) c.in-Unit.literal c.push.new.self c.in-Unit.ensures pushed;
      left =
          omega (
            arith,
            c.walk.invariant.left,
            search-falls c.args.variables c.args.clauses.now c.args.log.now c.walk.trail c.walk.invariant.walk.search _ c.push.new.self c.in_ok-push-in-Unit.ensures.ok,
          );
    }

pub returns-in-False-clause-within : goal.returns-in-False-clause-within
returns-in-False-clause-within c = walk-within c.args.variables c.args.clauses.now c.args.log.now c.walk.watches.pairs.items c.walk.watches.lists.items c.walk.trail c.args.done (lit_of c.of-falsified.result) c.walk.place c.walk.invariant.walk

pub returns-clause-kept : goal.returns-clause-kept
returns-clause-kept c =
    walk-end c.args.variables c.args.clauses.now c.args.log.now c.walk.watches.pairs.items c.walk.watches.lists.items c.walk.trail c.args.done (lit_of c.of-falsified.result) c.walk.place c.walk.invariant.walk
    (sym c.in_default.ensures.value)

pub returns-clause-within : goal.returns-clause-within
returns-clause-within c = walk-within c.args.variables c.args.clauses.now c.args.log.now c.walk.watches.pairs.items c.walk.watches.lists.items c.walk.trail c.args.done (lit_of c.of-falsified.result) c.walk.place c.walk.invariant.walk
