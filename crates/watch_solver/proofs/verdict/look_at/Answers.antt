use Rattle.watch_solver.proofs.Common.{List, arith, refl, subst, sym, both_ways, Lit, standing, Stands, Pair}
use Rattle.watch_solver.proofs.Looking.{looked-range, looked-move, looked-false, looked-unit}
use Rattle.watch_solver.proofs.verdict.look_at.Goals as goal

zero : Pair
zero = record { first = record { number = 0 }; second = record { number = 0 } }

pub of-requires : goal.of-requires
unfolding zero
of-requires c =
    let all : List (List Lit) = standing c.args.clauses.now c.args.log.now in
    omega (
      arith,
      looked-range all c.args.pairs.now c.args.trail.now _ c.args.watch c.requires.watch zero c.in-Some.second c.in-Some.ensures c.in-Some-clause_numbered.clause.now
          c.from.result c.from.ensures c.in-Some-clause_numbered.ensures c.args.variables c.requires.in_range c.in-Some-free_literal.literal c.in-Some-free_literal.ensures.0,
    )

pub returns-in-Some-free_literal : goal.returns-in-Some-free_literal
unfolding zero
returns-in-Some-free_literal c =
    let all : List (List Lit) = standing c.args.clauses.now c.args.log.now in
    looked-move all c.args.pairs.now c.args.trail.now _ c.args.watch c.requires.watch zero c.in-Some.second c.in-Some.ensures c.in-Some-clause_numbered.clause.now
    c.from.result c.from.ensures c.in-Some-clause_numbered.ensures c.len.result c.len.ensures c.literal-other.result c.literal-other.ensures
    c.in-Some-free_literal.literal c.of.result c.of.ensures c.in-Some-free_literal.ensures

pub returns-then-stands-3 : goal.returns-then-stands-3
unfolding zero
returns-then-stands-3 c =
    let all : List (List Lit) = standing c.args.clauses.now c.args.log.now in
    looked-false all c.args.pairs.now c.args.trail.now _ c.args.watch c.requires.watch zero c.in-Some.second c.in-Some.ensures c.in-Some-clause_numbered.clause.now
    c.from.result c.from.ensures c.in-Some-clause_numbered.ensures c.len.result c.len.ensures c.literal-other.result c.literal-other.ensures
    c.in-None.ensures (subst (λ (l : Lit). Stands c.args.trail.now l) c.opposite.ensures (c.if-stands-3.ensures.0 refl))

pub returns-else-stands-3 : goal.returns-else-stands-3
unfolding zero
returns-else-stands-3 c =
    let all : List (List Lit) = standing c.args.clauses.now c.args.log.now in
    looked-unit all c.args.pairs.now c.args.trail.now _ c.args.watch c.requires.watch zero c.in-Some.second c.in-Some.ensures c.in-Some-clause_numbered.clause.now
    c.from.result c.from.ensures c.in-Some-clause_numbered.ensures c.len.result c.len.ensures c.literal-other.result c.literal-other.ensures
    c.in-None.ensures (λ s. both_ways c.stands-2.result c.if-stands-2.false (c.stands-2.ensures.1 s))
    (λ s. both_ways c.stands-in-None.result c.if-stands-3.false (c.stands-in-None.ensures.1 (subst (λ (l : Lit). Stands c.args.trail.now l) (sym c.opposite.ensures) s)))
