-- No decision further down makes the clause unit.
use Rattle.clause_search.proofs.Common.{Some, None, arith, slice_get_within}
use Rattle.clause_search.proofs.ByPlace.{unready-at}
use Rattle.clause_search.proofs.Jumping.{but-whole}
use Rattle.clause_search.proofs.learning.jump.Goals as goal

pub place_past-past-requires : goal.place_past-past-requires
place_past-past-requires c = but-whole c.args.trail.now c.args.low c.args.clause.now c.args.literal c.requires.unit

pub decision_before-requires : goal.decision_before-requires
decision_before-requires c =
    let lt = slice_get_within c.args.trail.now c.down.place c.down.invariant.1.0 c.down.invariant.1.1 in
    omega (arith, lt)

pub down-preserved : goal.down-preserved
down-preserved c =
    let last = c.in-Some.ensures in
    let low = last.0 in
    let within = c.down.invariant.0 in
    (omega (arith, low, within), last.1, (c.place_past-past.ensures c.in-Some.earlier).1 c.if-earlier-past.false)

pub returns-then-earlier-past-clause-first : goal.returns-then-earlier-past-clause-first
returns-then-earlier-past-clause-first c =
    let lt = slice_get_within c.args.trail.now c.down.place c.down.invariant.1.0 c.down.invariant.1.1 in
    unready-at c.args.clause.now c.args.literal c.args.trail.now c.down.place (Some c.in-Some.earlier) (omega (arith, lt)) c.in-Some.ensures
    (λ but. let le = (c.place_past-past.ensures c.in-Some.earlier).0 but in let less = c.if-earlier-past.true in omega (arith, le, less))

pub returns-in_default-clause-first : goal.returns-in_default-clause-first
returns-in_default-clause-first c =
    let lt = slice_get_within c.args.trail.now c.down.place c.down.invariant.1.0 c.down.invariant.1.1 in
    unready-at c.args.clause.now c.args.literal c.args.trail.now c.down.place None (omega (arith, lt)) c.in_default.ensures tt
