-- What becomes of a clause of no, one or more literals.
use Rattle.watch_solver.proofs.Common.{get_or, arith, false, inl, inr, refl, sym, subst, both_ways, slice_get_within, Lit, Stands, Pair}
use Rattle.watch_solver.proofs.Starting.{false-only, first-two, only-of, started-false, started-pair, started-range, started-room, started-true, started-unit, two-of}
use Rattle.watch_solver.proofs.start.add_clause.Goals as goal

nothing : Lit
nothing = record { variable = 0; positive = false }

pub of-requires : goal.of-requires
unfolding nothing
of-requires c =
    let is = only-of c.args.clause.now c.literals.result.now nothing c.literals.ensures.value (omega arith) (omega arith) in
    omega (
      arith,
      started-range c.args.variables c.args.clauses.now c.args.index c.args.watches.now.pairs.items c.args.watches.now.lists.items c.args.trail.now c.requires.started c.args.clause.now c.requires.clause
          (get_or c.literals.result.now 0 nothing) (rw is (inl refl)),
    )

pub returns-then-stands : goal.returns-then-stands
unfolding nothing
returns-then-stands c =
    let is = only-of c.args.clause.now c.literals.result.now nothing c.literals.ensures.value (omega arith) (omega arith) in
    started-false c.args.variables c.args.clauses.now c.args.index c.args.watches.now.pairs.items c.args.watches.now.lists.items c.args.trail.now c.requires.started c.args.clause.now c.requires.clause
    (false-only c.args.trail.now c.args.clause.now (get_or c.literals.result.now 0 nothing) is (subst (λ (l : Lit). Stands c.args.trail.now l) c.opposite.ensures (c.if-stands.ensures.0 refl)))

pub returns-then-stands-2 : goal.returns-then-stands-2
unfolding nothing
returns-then-stands-2 c =
    let is = only-of c.args.clause.now c.literals.result.now nothing c.literals.ensures.value (omega arith) (omega arith) in
    started-true c.args.variables c.args.clauses.now c.args.index c.args.watches.now.pairs.items c.args.watches.now.lists.items c.args.trail.now c.requires.started c.args.clause.now c.requires.clause
    (get_or c.literals.result.now 0 nothing) is c.of.result c.add_none.new.self.pairs.items c.add_none.new.self.lists.items
    c.in_ok-add_none-in-len1.ensures.pairs c.in_ok-add_none-in-len1.ensures.lists (c.if-stands-2.ensures.0 refl)

pub overflow_add-index : goal.overflow_add-index
overflow_add-index c = omega (arith, slice_get_within c.args.clauses.now c.args.index c.args.clause.now c.requires.clause)

pub of-requires-in-len2-up : goal.of-requires-in-len2-up
unfolding nothing
of-requires-in-len2-up c =
    let is = two-of c.args.clause.now c.literals.result.now nothing c.literals.ensures.value (omega arith) in
    omega (
      arith,
      started-range c.args.variables c.args.clauses.now c.args.index c.args.watches.now.pairs.items c.args.watches.now.lists.items c.args.trail.now c.requires.started c.args.clause.now c.requires.clause
          (get_or c.literals.result.now 0 nothing) (rw is.1 (inl refl)),
    )

pub of-requires-in-len2-up-2 : goal.of-requires-in-len2-up-2
unfolding nothing
of-requires-in-len2-up-2 c =
    let is = two-of c.args.clause.now c.literals.result.now nothing c.literals.ensures.value (omega arith) in
    omega (
      arith,
      started-range c.args.variables c.args.clauses.now c.args.index c.args.watches.now.pairs.items c.args.watches.now.lists.items c.args.trail.now c.requires.started c.args.clause.now c.requires.clause
          (get_or c.literals.result.now 1 nothing) (rw is.1 (inr (inl refl))),
    )

pub add_pair-requires-clause-first : goal.add_pair-requires-clause-first
unfolding nothing
add_pair-requires-clause-first c =
    let is = two-of c.args.clause.now c.literals.result.now nothing c.literals.ensures.value (omega arith) in
    rw c.of-in-len2-up.ensures (started-room c.args.variables c.args.clauses.now c.args.index c.args.watches.now.pairs.items c.args.watches.now.lists.items c.args.trail.now c.requires.started c.args.clause.now c.requires.clause
    (get_or c.literals.result.now 0 nothing) (rw is.1 (inl refl)))

pub add_pair-requires-clause-second : goal.add_pair-requires-clause-second
unfolding nothing
add_pair-requires-clause-second c =
    let is = two-of c.args.clause.now c.literals.result.now nothing c.literals.ensures.value (omega arith) in
    rw c.of-in-len2-up-2.ensures (started-room c.args.variables c.args.clauses.now c.args.index c.args.watches.now.pairs.items c.args.watches.now.lists.items c.args.trail.now c.requires.started c.args.clause.now c.requires.clause
    (get_or c.literals.result.now 1 nothing) (rw is.1 (inr (inl refl))))

pub returns-in_ok-push-in-len1 : goal.returns-in_ok-push-in-len1
unfolding nothing
returns-in_ok-push-in-len1 c =
    let is = only-of c.args.clause.now c.literals.result.now nothing c.literals.ensures.value (omega arith) (omega arith) in
    started-unit c.args.variables c.args.clauses.now c.args.index c.args.watches.now.pairs.items c.args.watches.now.lists.items c.args.trail.now c.requires.started c.args.clause.now c.requires.clause
    (get_or c.literals.result.now 0 nothing) is c.of.result c.add_none.new.self.pairs.items c.add_none.new.self.lists.items
    c.in_ok-add_none-in-len1.ensures.pairs c.in_ok-add_none-in-len1.ensures.lists c.push.new.self
    (λ s. both_ways c.stands-in-len1.result c.if-stands-2.false (c.stands-in-len1.ensures.1 s))
    (λ s. both_ways c.stands.result c.if-stands.false (c.stands.ensures.1 (subst (λ (l : Lit). Stands c.args.trail.now l) (sym c.opposite.ensures) s)))
    c.in_ok-push-in-len1.ensures.ok

pub returns-in_ok-add_pair-in-len2-up : goal.returns-in_ok-add_pair-in-len2-up
unfolding nothing
returns-in_ok-add_pair-in-len2-up c =
    let is = two-of c.args.clause.now c.literals.result.now nothing c.literals.ensures.value (omega arith) in
    let pair : Pair = record { first = c.of-in-len2-up.result; second = c.of-in-len2-up-2.result } in
    started-pair c.args.variables c.args.clauses.now c.args.index c.args.watches.now.pairs.items c.args.watches.now.lists.items c.args.trail.now c.requires.started c.args.clause.now c.requires.clause
    pair c.add_pair.new.self.pairs.items c.add_pair.new.self.lists.items
    (first-two (get_or c.literals.result.now 0 nothing) (get_or c.literals.result.now 1 nothing) is.0 c.args.clause.now pair c.literals.ensures.clause is.1 c.of-in-len2-up.ensures c.of-in-len2-up-2.ensures)
    c.in_ok-add_pair-in-len2-up.ensures.pairs c.in_ok-add_pair-in-len2-up.ensures.lists
