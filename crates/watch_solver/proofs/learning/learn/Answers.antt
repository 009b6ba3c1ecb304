-- The learned clause is added and watched, and its literal is true at the position gone back to.
use Rattle.watch_solver.proofs.Common.{ℕ, ◌≤◌, ◌+◌, List, length, take, arith, ap, refl, subst, slice_get_within, Step, Entry, Learned, standing, IsUnassigned, Stands, stands-take}
use Rattle.clause_search.proofs.Learns.{search-learn, search-learn-falls}
use Rattle.watch_solver.proofs.Learned.{learned-done, learned-range, learned-roomy, learned-watched}
use Rattle.watch_solver.proofs.learning.learn.Goals as goal

fresh : (trail : List Entry) (learned : Learned) (low place : ℕ) → place ≤ low → IsUnassigned (take low trail) learned.literal.variable → IsUnassigned (take place trail) learned.literal.variable
fresh trail learned low place le free l at v = free l (stands-take trail place low l le at) v

pub watch_learned-requires-clause-room : goal.watch_learned-requires-clause-room
watch_learned-requires-clause-room c =
    learned-roomy c.args.variables c.args.watches.now.lists.items c.args.learned.clause c.requires.variables c.requires.watched.linked.room
    (learned-range c.args.variables (standing c.args.clauses.now c.args.log.now) c.args.trail.now c.args.low c.args.learned c.requires.search.trail_is c.requires.learned)

pub watch_learned-requires-clause-within : goal.watch_learned-requires-clause-within
watch_learned-requires-clause-within c =
    let lt = slice_get_within c.args.trail.now c.jump-place.result c.jump-place.ensures.decision.0 c.jump-place.ensures.decision.1 in omega (arith, lt)

pub watch_learned-requires-clause-fresh : goal.watch_learned-requires-clause-fresh
watch_learned-requires-clause-fresh c = fresh c.args.trail.now c.args.learned c.args.low c.jump-place.result c.jump-place.ensures.within c.requires.learned.free

pub push-requires-2 : goal.push-requires-2
push-requires-2 c =
    λ l at v. fresh c.args.trail.now c.args.learned c.args.low c.jump-place.result c.jump-place.ensures.within c.requires.learned.free l
    (subst (λ (x : List Entry). Stands x l) c.truncate.ensures at) v

pub returns-clause-search : goal.returns-clause-search
returns-clause-search c =
    let step : Step = record { chain = c.args.learned.chain; clause = c.args.learned.clause } in
    let entry : Entry = record { literal = c.args.learned.literal; reason = length c.args.clauses.now + c.len.result + 1 } in
    search-learn c.args.variables c.args.clauses.now c.args.log.now c.args.trail.now c.requires.search c.args.low c.requires.last c.args.learned c.requires.learned
    c.jump-place.result c.jump-place.ensures.within c.jump-place.ensures.decision c.jump-place.ensures.unit c.jump-place.ensures.first
    step refl refl entry refl (ap (λ i. length c.args.clauses.now + i + 1) c.len.ensures)
    c.push.new.self c.push-2.new.self c.in_ok-push.ensures.ok (rw c.truncate.ensures at c.in_ok-push-2.ensures.ok)

pub returns-clause-watched : goal.returns-clause-watched
returns-clause-watched c =
    let step : Step = record { chain = c.args.learned.chain; clause = c.args.learned.clause } in
    let entry : Entry = record { literal = c.args.learned.literal; reason = length c.args.clauses.now + c.len.result + 1 } in
    learned-watched c.args.variables c.args.clauses.now c.args.log.now c.push.new.self step c.in_ok-push.ensures.ok c.args.trail.now c.push-2.new.self c.args.learned.literal c.jump-place.result
    c.jump-place.ensures.decision c.requires.learned.has (fresh c.args.trail.now c.args.learned c.args.low c.jump-place.result c.jump-place.ensures.within c.requires.learned.free)
    entry refl (λ z. omega (arith, z)) (rw c.truncate.ensures at c.in_ok-push-2.ensures.ok) c.args.watches.now.pairs.items c.watch_learned.new.watches.pairs.items
    c.args.watches.now.lists.items c.watch_learned.new.watches.lists.items c.requires.watched c.in_ok-watch_learned.ensures.added
    (c.in_ok-watch_learned.ensures.linked c.args.variables (standing c.args.clauses.now c.args.log.now) c.requires.watched.linked)

pub returns-clause-kept : goal.returns-clause-kept
returns-clause-kept c =
    let step : Step = record { chain = c.args.learned.chain; clause = c.args.learned.clause } in
    let entry : Entry = record { literal = c.args.learned.literal; reason = length c.args.clauses.now + c.len.result + 1 } in
    learned-done c.args.variables c.args.clauses.now c.args.log.now c.push.new.self step c.in_ok-push.ensures.ok c.args.trail.now c.push-2.new.self c.args.learned.literal c.jump-place.result
    c.jump-place.ensures.decision c.requires.learned.has (fresh c.args.trail.now c.args.learned c.args.low c.jump-place.result c.jump-place.ensures.within c.requires.learned.free)
    entry refl (λ z. omega (arith, z)) (rw c.truncate.ensures at c.in_ok-push-2.ensures.ok) c.args.watches.now.pairs.items c.watch_learned.new.watches.pairs.items
    c.args.watches.now.lists.items c.watch_learned.new.watches.lists.items c.requires.watched c.in_ok-watch_learned.ensures.added

pub returns-clause-falls : goal.returns-clause-falls
returns-clause-falls c =
    let step : Step = record { chain = c.args.learned.chain; clause = c.args.learned.clause } in
    let entry : Entry = record { literal = c.args.learned.literal; reason = length c.args.clauses.now + c.len.result + 1 } in
    search-learn-falls c.args.variables c.args.clauses.now c.args.log.now c.args.trail.now c.requires.search c.args.low c.requires.last c.args.learned c.requires.learned
    c.jump-place.result c.jump-place.ensures.within c.jump-place.ensures.decision c.jump-place.ensures.unit c.jump-place.ensures.first
    step refl refl entry refl (ap (λ i. length c.args.clauses.now + i + 1) c.len.ensures)
    c.push-2.new.self (rw c.truncate.ensures at c.in_ok-push-2.ensures.ok)
